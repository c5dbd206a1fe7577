-- Look-up of items by name. Source: ours.
use Rattle.std.specs.Prelude.{◌≡◌, ◌≤◌, ℕ, ◌==◌, ◌&&◌, nat_le, Bool, true, List, map, Option, Some, MatchOption}
use Rattle.std.specs.List.{list_any, Contains}
use Rattle.std.specs.List.Sorted.{IsSortedBy}
use Rattle.std.specs.Ordering.{is_lt, nat_cmp, ordering_then}
use Rattle.ctf_order.specs.Naming.{Naming, name_or_empty}
use Rattle.ctf_order.specs.Names.{by_rank, is_text, rank}
use Rattle.ctf_order.specs.declared.entries.NamedItem.{NamedItem}
use Rattle.ctf_order.specs.declared.entries.Ranked.{Ranked}
use Rattle.ctf_order.specs.declared.order.Order.{Order}

-- ---- the item that a name finds

-- the item has this name
abbrev pub IsNamed : Naming → List ℕ → NamedItem → Type 0
IsNamed t text e = t e.reference ≡ Some text

-- the least item with this name
pub record IsLeast (t : Naming) (items : List NamedItem) (text : List ℕ) (n : ℕ) : Type 0 where
  pub entry : NamedItem
  pub there : Contains items entry
  pub named : IsNamed t text entry
  pub is : entry.item ≡ n
  pub least : (e : NamedItem) → Contains items e → IsNamed t text e → n ≤ e.item

-- `found` is the least item with the name, or none if there is no such item
abbrev pub IsFound : Naming → List NamedItem → List ℕ → Option ℕ → Type 0
IsFound t items text found =
    MatchOption found ((e : NamedItem) → Contains items e → IsNamed t text e → ⊥) (IsLeast t items text)

-- ---- how they are stored

-- ordered by the rank of the name, then by item
abbrev pub precedes : Naming → NamedItem → NamedItem → Bool
precedes t a b =
    is_lt (ordering_then (by_rank (name_or_empty t a.reference) (name_or_empty t b.reference))
    (nat_cmp a.item b.item))

abbrev pub same_entry : NamedItem → NamedItem → Bool
same_entry e f = e.reference == f.reference && e.item == f.item

-- an entry with this name whose item is not greater than `item`
abbrev pub is_early : Naming → List ℕ → ℕ → NamedItem → Bool
is_early t text item e = nat_le e.item item && is_text (t e.reference) text

-- each entry is one of the items and has a name, and the least item of each name is among the
-- entries
pub record Stands (t : Naming) (items entries : List NamedItem) : Type 0 where
  pub inside : (e : NamedItem) → Contains entries e → list_any (same_entry e) items ≡ true
  pub named : (e : NamedItem) → Contains entries e → t e.reference ≡ Some (name_or_empty t e.reference)
  pub all : (e : NamedItem) (text : List ℕ) → Contains items e → IsNamed t text e
      → list_any (is_early t text e.item) entries ≡ true

-- the stored entries
abbrev pub entries_of : Order → List NamedItem
entries_of o = map (λ r. r.entry) o.entries.items

-- each stored rank is that of the item's name
abbrev pub AreRanked : Naming → Order → Type 0
AreRanked t o = (r : Ranked) → Contains o.entries.items r
    → r.rank ≡ rank (name_or_empty t r.entry.reference)

-- the stored entries fit the items and are sorted
pub record Fits (t : Naming) (items : List NamedItem) (o : Order) : Type 0 where
  pub stands : Stands t items (entries_of o)
  pub sorted : IsSortedBy (precedes t) (entries_of o)
  pub ranked : AreRanked t o
