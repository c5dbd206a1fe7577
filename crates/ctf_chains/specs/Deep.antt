-- Chains that are too long. Source: ours.
use Rattle.std.specs.Prelude.{ℕ, ◌<◌, Bool, List, length, Option, Result, MatchOption}
use Rattle.ctf_model.specs.rules.Chains.{IsWithin, edges, longest_chain}
use Rattle.ctf_model.specs.format.Name.{Tables}
use Rattle.ctf_model.specs.format.Section.{Piece, terms_in}
use Rattle.ctf_model.specs.declared.faults.Fault.{Fault}
use Rattle.ctf_chains.specs.Steps.{AreSpelled, steps}
use Rattle.ctf_chains.specs.declared.chain.Chain.{Chain}

-- no chain from a type before `n` has more than `limit` steps
pub record AreWithinBefore (es : List (List ℕ)) (limit n : ℕ) : Type 0 where
  pub each : (j : ℕ) → j < n → IsWithin es limit j

-- a longer chain begins at type `i`, and at none before it
pub record IsFirstDeep (es : List (List ℕ)) (limit i : ℕ) : Type 0 where
  pub inside : i < length es
  pub deep : ¬ IsWithin es limit i
  pub before : AreWithinBefore es limit i

-- `found` is the first type with a longer chain, or none if there is no such type
abbrev pub IsLeastDeep : List (List ℕ) → ℕ → Option ℕ → Type 0
IsLeastDeep es limit found =
    MatchOption found (AreWithinBefore es limit (length es)) (IsFirstDeep es limit)

-- the same for the types that records spell, whichever the name tables
abbrev pub IsLeastDeepType : Chain → Bool → List (Result Piece Fault) → Option ℕ → Type 0
IsLeastDeepType chain child pieces found =
    (t : Tables) → AreSpelled t pieces
    → IsLeastDeep (edges (steps chain) child (terms_in t pieces)) longest_chain found
