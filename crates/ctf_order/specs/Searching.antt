-- Search in items sorted by their names' ranks. Source: ours.
use Rattle.std.specs.Prelude.{◌≡◌, ℕ, ◌+◌, ◌<◌, ◌≤◌, ltb, true, List, [], ◌∷◌, length, slice_index_or, Option, Some, None, if◌then◌else◌}
use Rattle.std.specs.List.Sorted.{IsPartitionedBy}
use Rattle.ctf_order.specs.Naming.{Naming}
use Rattle.ctf_order.specs.Names.{is_text}
use Rattle.ctf_order.specs.declared.entries.Ranked.{Ranked}

-- the first item with this name; the search stops at a greater rank
unfoldable pub first_of : Naming → ℕ → List ℕ → List Ranked → Option ℕ
first_of t rank text [] = None
first_of t rank text (r ∷ entries) =
    if ltb rank r.rank then None
    else if is_text (t r.entry.reference) text then Some r.entry.item
    else first_of t rank text entries

-- the entries with lower ranks come first
abbrev pub AreParted : List Ranked → ℕ → Type 0
AreParted entries rank = IsPartitionedBy (λ r. ltb r.rank rank) entries

-- the entries before `place` have lower ranks
abbrev pub AreLowerBefore : List Ranked → ℕ → ℕ → Type 0
AreLowerBefore entries rank place = (j : ℕ) (d : Ranked) → j < place → j < length entries
    → ltb (slice_index_or entries j d).rank rank ≡ true

-- there are 32 entries from `from` on, and the first has a lower rank
pub record IsNear (entries : List Ranked) (from rank : ℕ) : Type 0 where
  pub inside : from + 32 ≤ length entries
  pub lower : (d : Ranked) → ltb (slice_index_or entries from d).rank rank ≡ true
