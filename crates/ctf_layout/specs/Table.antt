-- The table of sizes and alignments, while it is filled and when complete. Source: ours.
use Rattle.std.specs.Prelude.{◌≡◌, ℕ, ◌+◌, ◌<◌, ◌⊎◌, List, [], ◌∷◌, length, Option, Some, None, IsSome, slice_index_or}
use Rattle.ctf_model.specs.rules.Chains.{IsWithin}
use Rattle.ctf_model.specs.figures.FigureLaws.{value_edges}
use Rattle.ctf_model.specs.spaces.Space.{Space}
use Rattle.ctf_model.specs.format.Term.{Term, Body}
use Rattle.ctf_model.specs.spaces.TypePlaces.{own_number}
use Rattle.ctf_layout.specs.Bases.{members_read}
use Rattle.ctf_layout.specs.Extents.{IsExtent}
use Rattle.ctf_layout.specs.declared.extents.Extent.{Extent}

-- the extent of each own type, or none while unknown
abbrev pub Table : Type 0
Table = List (Option Extent)

abbrev pub entry : Table → ℕ → Option Extent
entry table j = slice_index_or table j None

-- ---- correctness

-- every known extent is correct
pub record Knows (s : Space) (table : Table) : Type 0 where
  pub right : (j : ℕ) (e : Extent) → entry table j ≡ Some e
      → IsExtent s (own_number s.own.child j) e

-- every known extent stays
pub record Keeps (before after : Table) : Type 0 where
  pub same : (j : ℕ) (e : Extent) → entry before j ≡ Some e → entry after j ≡ Some e

-- one or more steps by value lead from `j` to `i`, as far as the lengths of chains show
pub record LeadsOn (es : List (List ℕ)) (j i : ℕ) : Type 0 where
  pub on : (k : ℕ) → IsWithin es k j → (m : ℕ) × (m < k) × IsWithin es m i

-- every type filled in is one that `i` leads to
pub record FillsBelow (es : List (List ℕ)) (i : ℕ) (before after : Table) : Type 0 where
  pub below : (m : ℕ) → entry before m ≡ None → IsSome (entry after m) → LeadsOn es i m

-- every type filled in is `i`, or one that it leads to
pub record FillsFrom (es : List (List ℕ)) (i : ℕ) (before after : Table) : Type 0 where
  pub from : (m : ℕ) → entry before m ≡ None → IsSome (entry after m) → (m ≡ i) ⊎ LeadsOn es i m

-- ---- work: a step for each type that is begun, and one for each member that is read

-- the work that a type still needs
abbrev pub debt : Body → Option Extent → ℕ
debt body None = 1 + members_read body
debt body (Some e) = 0

-- the work that all types still need
unfoldable pub work_left : List Term → Table → ℕ
work_left [] table = 0
work_left (x ∷ types) [] = 0
work_left (x ∷ types) (e ∷ table) = debt x.body e + work_left types table

-- ---- visits

-- the state while type `i` is visited: the table, and the number of steps
pub record IsUnderway (s : Space) (i : ℕ) (before after : Table) (from to : ℕ) : Type 0 where
  pub knows : Knows s after
  pub keeps : Keeps before after
  pub fills : FillsBelow (value_edges s.own) i before after
  pub steps : to + work_left s.own.terms after ≡ from + work_left s.own.terms before

-- the state after the visit of type `i`
pub record IsFilled (s : Space) (i : ℕ) (before after : Table) (from to : ℕ) : Type 0 where
  pub knows : Knows s after
  pub known : IsSome (entry after i)
  pub keeps : Keeps before after
  pub fills : FillsFrom (value_edges s.own) i before after
  pub steps : to + work_left s.own.terms after ≡ from + work_left s.own.terms before

-- the complete table of all own types
pub record IsWhole (s : Space) (table : Table) : Type 0 where
  pub each : (j : ℕ) → j < length s.own.terms → IsSome (entry table j)
  pub knows : Knows s table
