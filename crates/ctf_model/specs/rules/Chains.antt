-- Chains of types that refer to each other, and their greatest length. Source: ours; ctf(5) says
-- only which types a type names.
use Rattle.std.specs.Prelude.{◌≡◌, ◌<◌, ℕ, zero, suc, ◌==◌, nat_lt, Bool, List, [], ◌∷◌, length, map, Any, Option, Some, None, slice_get, slice_index_or, if◌then◌else◌}
use Rattle.std.specs.List.{filter_map, list_all, AllByRecursion}
use Rattle.ctf_model.specs.format.Term.{Term, Body}
use Rattle.ctf_model.specs.format.Term as term
use Rattle.ctf_model.specs.spaces.TypePlaces.{place}
use Rattle.ctf_model.specs.declared.numbers.Place.{Place}
use Rattle.ctf_model.specs.declared.numbers.Place.TheVariants.{Own}

-- ---- steps, as the type numbers that a type's step leads to

-- the types whose values this type's value is or contains
abbrev pub by_value : Body → List ℕ
by_value (term.typedef t) = t ∷ []
by_value (term.volatile t) = t ∷ []
by_value (term.const t) = t ∷ []
by_value (term.restrict t) = t ∷ []
by_value (term.array elements) = elements.contents ∷ []
by_value (term.struct size members) = map (λ m. m.tnum) members
by_value (term.union size members) = map (λ m. m.tnum) members
by_value _ = []

-- the types that this type's declaration is built on
abbrev pub declarator : Body → List ℕ
declarator (term.pointer t) = t ∷ []
declarator (term.typedef t) = t ∷ []
declarator (term.volatile t) = t ∷ []
declarator (term.const t) = t ∷ []
declarator (term.restrict t) = t ∷ []
declarator (term.function ret args) = ret ∷ []
declarator (term.array elements) = elements.contents ∷ []
declarator _ = []

-- ---- chains

-- a step from own type `i` to own type `j`, which `i` names
pub record Leads (steps : Body → List ℕ) (child : Bool) (types : List Term) (i j : ℕ) : Type 0 where
  pub from : Term
  pub stands : slice_get types i ≡ Some from
  pub names : Any (λ n. place child n ≡ Own j) (steps from.body)
  pub inside : j < length types

-- a chain of `k` steps begins at own type `i`; a cycle has chains of any length
unfoldable pub BeginsChain : (Body → List ℕ) → Bool → List Term → ℕ → ℕ → Type 0
BeginsChain steps child types zero i = Unit {0}
BeginsChain steps child types (suc k) i =
    (j : ℕ) × Leads steps child types i j × BeginsChain steps child types k j

-- the greatest number of steps in a valid chain
abbrev pub longest_chain : ℕ
longest_chain = 512

-- ---- the same, computed

-- the index of an own type, if there are that many
abbrev pub own_index_at : ℕ → Place → Option ℕ
own_index_at count (Own i) = if nat_lt i count then Some i else None
own_index_at count _ = None

-- the index of the own type that a number names
abbrev pub own_index : Bool → ℕ → ℕ → Option ℕ
own_index child count n = own_index_at count (place child n)

-- for each type, the own types that it leads to
unfoldable pub edges : (Body → List ℕ) → Bool → List Term → List (List ℕ)
edges steps child types =
    map (λ x. filter_map (own_index child (length types)) (steps x.body)) types

abbrev pub targets : List (List ℕ) → ℕ → List ℕ
targets es i = slice_index_or es i []

-- no chain from type `i` has more than `k` steps; a cycle never ends
unfoldable pub IsWithin : List (List ℕ) → ℕ → ℕ → Type 0
IsWithin es zero i = targets es i ≡ []
IsWithin es (suc k) i = AllByRecursion (IsWithin es k) (targets es i)

unfoldable pub within : List (List ℕ) → ℕ → ℕ → Bool
within es zero i = length (targets es i) == 0
within es (suc k) i = list_all (within es k) (targets es i)
