-- Laws of chains: how many types one visits.
use Rattle.std.specs.Prelude.{◌≡◌, ◌<◌, ◌≤◌, ℕ, ◌+◌, Bool, true, false, Any, List, [], ◌∷◌, length, None, Ok}
use Rattle.std.specs.List.{AllByRecursion, count_by}
use Rattle.std.specs.Option.{ForSome}
use Rattle.ctf_model.specs.rules.Chains.{IsWithin, by_value, declarator, edges, longest_chain}
use Rattle.ctf_model.specs.format.Dictionary.{Dictionary, said_by}
use Rattle.ctf_model.specs.rules.Faults.{first_fault}
use Rattle.ctf_model.specs.format.Lists.{Lists}
use Rattle.ctf_model.specs.spaces.Space.{Space, space_type}
use Rattle.ctf_model.specs.format.Term.{Term, Body}
use Rattle.ctf_model.specs.spaces.TypePlaces.{place}
use Rattle.ctf_model.specs.declared.numbers.Place.{Place}
use Rattle.ctf_model.specs.declared.numbers.Place.TheVariants.{Own, Parents}

-- ---- short chains within a dictionary

-- no chain of such steps among a dictionary's own types exceeds the limit
pub record HasShortChains (steps : Body → List ℕ) (d : Dictionary) : Type 0 where
  pub each : (i : ℕ) → i < length d.terms → IsWithin (edges steps d.child d.terms) longest_chain i

-- the same in a dictionary that is no child, where no step leads to a child's type
pub record IsShortParent (steps : Body → List ℕ) (d : Dictionary) : Type 0 where
  pub plain : d.child ≡ false
  pub short : HasShortChains steps d
  pub low : AllByRecursion (λ x. AllByRecursion (λ t. t < 0x8000) (steps x.body)) d.terms

-- the same in a dictionary and in the parent that it was imported over
pub record HasShortChainsIn (steps : Body → List ℕ) (s : Space) : Type 0 where
  pub own : HasShortChains steps s.own
  pub parent : ForSome s.parent (IsShortParent steps)

-- a dictionary that breaks no rule has only short chains; if it is no child, it is also a short
-- parent
pub record ShortWhereFaultless (steps : Body → List ℕ) : Type 0 where
  pub own : (s : Lists) → first_fault s ≡ None → HasShortChains steps (said_by s)
  pub parent : (s : Lists) → first_fault s ≡ None → (said_by s).child ≡ false
      → IsShortParent steps (said_by s)

-- this holds for steps by value, which values, figures and paths take, and for declarator steps
pub record FaultlessChainsAreShort : Type 0 where
  pub values : ShortWhereFaultless by_value
  pub declarators : ShortWhereFaultless declarator

-- ---- chains through both dictionaries

-- the numbers contain the first of the chain that follows, if there is one
abbrev pub GoesOn : List ℕ → List ℕ → Type 0
GoesOn ts [] = Unit {0}
GoesOn ts (n ∷ ns) = Any (λ t. t ≡ n) ts

-- each number is a type of the space, with a step to the next number
unfoldable pub IsChain : (Body → List ℕ) → Space → List ℕ → Type 0
IsChain steps s [] = Unit {0}
IsChain steps s (n ∷ ns) =
    (x : Term) × (space_type s n ≡ Ok x) × GoesOn (steps x.body) ns × IsChain steps s ns

abbrev pub is_own : Place → Bool
is_own (Own i) = true
is_own _ = false

abbrev pub is_parents : Place → Bool
is_parents (Parents i) = true
is_parents _ = false

-- a chain visits at most 513 own types, and as many of the parent's
abbrev pub ChainsAreShort : Type 0
ChainsAreShort =
    (steps : Body → List ℕ) (s : Space) → HasShortChainsIn steps s
    → (ns : List ℕ) → IsChain steps s ns
    → (count_by (λ n. is_own (place s.own.child n)) ns ≤ longest_chain + 1)
    × (count_by (λ n. is_parents (place s.own.child n)) ns ≤ longest_chain + 1)
