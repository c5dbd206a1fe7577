-- Depth by value and alignment of a draft's types. Source: ours.
use Rattle.std.specs.Prelude.{◌≡◌, ◌<◌, ◌≤◌, ◌⊎◌, ℕ, Bool, true, false, List, [], ◌∷◌, length, map, Option, Some, None, MatchOption, slice_index_or, is_some}
use Rattle.std.specs.List.{AllByRecursion}
use Rattle.ctf_chains.specs.Places.{Places}
use Rattle.ctf_chains.specs.Search.{IsDepth}
use Rattle.ctf_model.specs.rules.Chains.{IsWithin, by_value, longest_chain, own_index}
use Rattle.ctf_model.specs.format.Dictionary.{Dictionary}
use Rattle.ctf_model.specs.drafts.Drafts.{Draft, count_of, content, space_of}
use Rattle.ctf_model.specs.figures.FigureLaws.{own_body, value_edges}
use Rattle.ctf_model.specs.figures.Figures.{align, greater}
use Rattle.ctf_model.specs.format.Term.{Body}
use Rattle.ctf_model.specs.format.Term as term
use Rattle.ctf_model.specs.spaces.TypePlaces.{own_number}
use Rattle.ctf_draft.specs.declared.reach.Reach.{Reach}

-- the depth and alignment of the own type with index `i`
pub record IsReach (d : Draft) (i : ℕ) (r : Reach) : Type 0 where
  pub inside : i < count_of d
  pub depth : IsDepth (value_edges (content d)) i r.depth
  pub short : r.depth ≤ longest_chain
  pub aligned : r.align ≡ align (space_of d) (own_number (is_some d.parent) i)

-- the table has an entry for a type
abbrev pub IsKnown : List (Option Reach) → ℕ → Type 0
IsKnown known j = is_some (slice_index_or known j None) ≡ true

-- or the number is no own type's
abbrev pub IsKnownAt : Draft → List (Option Reach) → ℕ → Type 0
IsKnownAt d known n =
    MatchOption (own_index (is_some d.parent) (count_of d) n) (Unit {0}) (IsKnown known)

-- the entries are correct, and the table has entries for all types that an entry's type leads to
pub record Knows (d : Draft) (known : List (Option Reach)) : Type 0 where
  pub right : (j : ℕ) (r : Reach) → slice_index_or known j None ≡ Some r → IsReach d j r
  pub closed : (j : ℕ) (r : Reach) → slice_index_or known j None ≡ Some r
      → AllByRecursion (IsKnownAt d known) (by_value (own_body (content d) j))

-- whether one more member can change the type's alignment: of a struct only the first counts
abbrev pub counts_more : Body → Bool
counts_more (term.struct said []) = true
counts_more (term.struct said (m ∷ ms)) = false
counts_more body = true

-- the entry of type `j` has a lower depth
pub record IsBelow (known : List (Option Reach)) (depth j : ℕ) : Type 0 where
  pub reach : Reach
  pub is : slice_index_or known j None ≡ Some reach
  pub less : reach.depth < depth

-- or the number is no own type's
abbrev pub IsBelowAt : Draft → List (Option Reach) → ℕ → ℕ → Type 0
IsBelowAt d known depth n =
    MatchOption (own_index (is_some d.parent) (count_of d) n) (Unit {0}) (IsBelow known depth)

-- adding a member of type `n` leaves depth and alignment of type `i` as they are
pub record Stays (d : Draft) (known : List (Option Reach)) (i n : ℕ) : Type 0 where
  pub reach : Reach
  pub is : slice_index_or known i None ≡ Some reach
  pub below : IsBelowAt d known reach.depth n
  pub aligned : (counts_more (own_body (content d) i) ≡ false)
      ⊎ (greater reach.align (align (space_of d) n) ≡ reach.align)

-- found within a budget of steps
pub record IsFound (d : Draft) (i budget : ℕ) (r : Reach) : Type 0 where
  pub reach : IsReach d i r
  pub affordable : r.depth ≤ budget

-- none, if the type is deeper than the budget
abbrev pub Answers : Draft → ℕ → ℕ → Option Reach → Type 0
Answers d i budget found =
    MatchOption found (¬ IsWithin (value_edges (content d)) budget i) (IsFound d i budget)

-- for each own type, the own types that it refers to by value, with repetitions
abbrev pub value_places : Dictionary → Places
value_places d = map (λ x. map (own_index d.child (length d.terms)) (by_value x.body)) d.terms
