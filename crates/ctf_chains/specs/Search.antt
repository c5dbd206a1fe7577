-- The intermediate state of the search for long chains. Source: ours.
use Rattle.std.specs.Prelude.{◌≡◌, ℕ, zero, suc, ◌+◌, ◌-◌, ◌==◌, ◌≤◌, ◌<◌, List, [], ◌∷◌, Option, nat_le, slice_index_or, MatchOption, if◌then◌else◌}
use Rattle.std.specs.List.{AllByRecursion}
use Rattle.ctf_model.specs.rules.Chains.{IsWithin}
use Rattle.ctf_chains.specs.Places.{Places, record_work}
use Rattle.ctf_chains.specs.declared.entry.VisitState.{VisitState}
use Rattle.ctf_chains.specs.declared.entry.VisitState.TheVariants.{Unvisited, Depth, TooDeep}

-- ---- depths

-- no chain whose first step goes to one of these records has more than `k` steps
unfoldable pub AreWithin : List (List ℕ) → ℕ → List ℕ → Type 0
AreWithin es zero js = js ≡ []
AreWithin es (suc k) js = AllByRecursion (IsWithin es k) js

-- the longest chain whose first step goes to one of these records has `d` steps
pub record IsLongest (es : List (List ℕ)) (js : List ℕ) (d : ℕ) : Type 0 where
  pub within : AreWithin es d js
  pub least : (k : ℕ) → AreWithin es k js → d ≤ k

-- the longest chain from a record has `d` steps
pub record IsDepth (es : List (List ℕ)) (i d : ℕ) : Type 0 where
  pub within : IsWithin es d i
  pub least : (k : ℕ) → IsWithin es k i → d ≤ k

-- ---- the table: for each record 0, `busy` during its visit, or its depth plus one

-- marks a record that is being visited
abbrev pub busy : ℕ
busy = 0xffff

-- the meaning of a number in the table, within a budget
abbrev pub entry_in : ℕ → ℕ → VisitState
entry_in budget n =
    if n == 0 then Unvisited else if nat_le (n - 1) budget then Depth (n - 1) else TooDeep

-- the depths in the table are correct
pub record Knows (es : List (List ℕ)) (known : List ℕ) : Type 0 where
  pub right : (j : ℕ) → 1 ≤ slice_index_or known j 0 → slice_index_or known j 0 < busy
      → IsDepth es j (slice_index_or known j 0 - 1)

-- one or more steps lead from `j` to `i`, as far as the lengths of chains show
pub record Leads (es : List (List ℕ)) (j i : ℕ) : Type 0 where
  pub on : (k : ℕ) → IsWithin es k j → (m : ℕ) × (m < k) × IsWithin es m i

-- every record that is being visited leads to `i`
pub record OnWay (es : List (List ℕ)) (known : List ℕ) (i : ℕ) : Type 0 where
  pub leads : (j : ℕ) → slice_index_or known j 0 ≡ busy → Leads es j i

-- every visit open after was open before, and no entry is lost
pub record GoesOn (before after : List ℕ) : Type 0 where
  pub was : (j : ℕ) → slice_index_or after j 0 ≡ busy → slice_index_or before j 0 ≡ busy
  pub stays : (j : ℕ) → 1 ≤ slice_index_or before j 0 → 1 ≤ slice_index_or after j 0

-- a visit of `i` that ended with depth `d`
pub record Visit (es : List (List ℕ)) (budget i : ℕ) (before after : List ℕ) (d : ℕ) : Type 0 where
  pub depth : IsDepth es i d
  pub affordable : d ≤ budget
  pub entered : 1 ≤ slice_index_or after i 0
  pub ended : GoesOn before after

-- the result of visiting `i`: its depth, or none if that exceeds the budget
abbrev pub Answers : List (List ℕ) → ℕ → ℕ → List ℕ → List ℕ → Option ℕ → Type 0
Answers es budget i before after found =
    MatchOption found (¬ IsWithin es budget i) (Visit es budget i before after)

-- ---- work

-- the work that a record may still cause: 0 once the table has an entry for it
abbrev pub debt : List (Option ℕ) → ℕ → ℕ
debt places zero = record_work places
debt places (suc entry) = 0

-- the work that all records may still cause
unfoldable pub work_left : Places → List ℕ → ℕ
work_left [] known = 0
work_left (places ∷ all) [] = 0
work_left (places ∷ all) (entry ∷ known) = debt places entry + work_left all known
