-- Bounds on how deep types nest by value. Source: ours.
use Rattle.std.specs.Prelude.{◌≡◌, ◌+◌, ◌<◌, ◌≤◌, ◌⊎◌, ℕ, true, min, List, [], length, map, Option, Some, None, MatchOption, slice_index_or, is_some, Vec, ◌==◌}
use Rattle.std.specs.List.{AllByRecursion, list_any}
use Rattle.std.specs.declared.alloc.Global.{Global}
use Rattle.ctf_model.specs.rules.Chains.{by_value, own_index}
use Rattle.ctf_model.specs.drafts.Drafts.{Draft, count_of, content}
use Rattle.ctf_model.specs.figures.FigureLaws.{own_body}
use Rattle.ctf_draft.specs.declared.depths.Depths.{Depths}

-- the bound of a type; 513 if none is known
abbrev pub bound : List ℕ → ℕ → ℕ
bound bounds i = slice_index_or bounds i 513

abbrev pub above_of : List (Vec ℕ Global) → List (List ℕ)
above_of lists = map (λ (v : Vec ℕ Global). v.items) lists

-- the bound of type `i` is large enough for it to contain type `j`
abbrev pub IsOver : List ℕ → ℕ → ℕ → Type 0
IsOver bounds i j = min 513 (bound bounds j + 1) ≤ bound bounds i

-- type `i` is listed as a container of type `j`
abbrev pub IsAbove : List (List ℕ) → ℕ → ℕ → Type 0
IsAbove above j i = list_any (λ p. p == i) (slice_index_or above j []) ≡ true

-- the same for a type number, if it is an own type's
abbrev pub IsOverAt : Draft → List ℕ → ℕ → ℕ → Type 0
IsOverAt d bounds i n =
    MatchOption (own_index (is_some d.parent) (count_of d) n) (Unit {0}) (IsOver bounds i)

abbrev pub IsNoted : ℕ → List (List ℕ) → ℕ → ℕ → Type 0
IsNoted first above i j = (j < first) ⊎ IsAbove above j i

abbrev pub IsNotedAt : Draft → List (List ℕ) → ℕ → ℕ → Type 0
IsNotedAt d above i n =
    MatchOption (own_index (is_some d.parent) (count_of d) n) (Unit {0})
    (IsNoted (length d.updated.terms) above i)

-- every bound is large enough, and every container of a pending type is listed
pub record IsBounded (d : Draft) (x : Depths) : Type 0 where
  pub over : (i : ℕ)
      → AllByRecursion (IsOverAt d x.bounds.items i) (by_value (own_body (content d) i))
  pub noted : (i : ℕ)
      → AllByRecursion (IsNotedAt d (above_of x.above.items) i) (by_value (own_body (content d) i))

-- no bound decreases; where one increases, the bounds of its containers are large enough
pub record IsLifted (first : ℕ) (above : List (List ℕ)) (old new : List ℕ) : Type 0 where
  pub more : (j : ℕ) → bound old j ≤ bound new j
  pub settled : (j : ℕ) → j < first → bound new j ≡ bound old j
  pub enough : (j : ℕ)
      → AllByRecursion (λ p. IsOver new p j ⊎ (bound new j ≡ bound old j))
      (slice_index_or above j [])

-- the bound that a container of this type needs; 0 for none
abbrev pub needed_bound : List ℕ → Option ℕ → ℕ
needed_bound bounds None = 0
needed_bound bounds (Some j) = min 513 (bound bounds j + 1)

-- type `i` is ready to contain one more type
abbrev pub IsReady : ℕ → Depths → ℕ → Option ℕ → Type 0
IsReady first x i o =
    MatchOption o (Unit {0})
    (λ j. IsOver x.bounds.items i j × IsNoted first (above_of x.above.items) i j)
