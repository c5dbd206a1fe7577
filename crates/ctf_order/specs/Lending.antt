-- Items with their names, and with the ranks of their names. Source: ours.
use Rattle.std.specs.Prelude.{◌≡◌, ◌≤◌, ◌⊎◌, ℕ, ◌==◌, ◌&&◌, nat_le, Bool, true, false, List, Option, Some, None, MatchOption}
use Rattle.std.specs.List.{Contains}
use Rattle.std.specs.Ordering.{is_lt, nat_cmp, ordering_then}
use Rattle.ctf_order.specs.Naming.{Naming}
use Rattle.ctf_order.specs.Names.{rank}
use Rattle.ctf_order.specs.Holding.{IsNamed}
use Rattle.ctf_order.specs.declared.entries.NamedItem.{NamedItem}
use Rattle.ctf_order.specs.declared.entries.Ranked.{Ranked}
use Rattle.ctf_order.specs.declared.lending.Named.{Named}

-- `n` has the item's name
abbrev pub IsLent : Naming → Named → Type 0
IsLent t n = t n.entry.reference ≡ Some n.name.now

abbrev pub repeats : Option NamedItem → NamedItem → Bool
repeats None item = false
repeats (Some before) item = before.reference == item.reference && nat_le before.item item.item

-- the next item with its name; none if it has no name or repeats the item before it
abbrev pub IsNextLent : Naming → Option NamedItem → NamedItem → Option Named → Type 0
IsNextLent t before item next =
    MatchOption next ((repeats before item ≡ true) ⊎ (t item.reference ≡ None))
    (λ n. (n.entry ≡ item) × IsLent t n)

-- ordered by the rank of the name, then by item
abbrev pub goes_before : Ranked → Ranked → Bool
goes_before a b =
    is_lt (ordering_then (nat_cmp a.rank b.rank) (nat_cmp a.entry.item b.entry.item))

-- the item has a name, and the rank is that of its name
pub record IsRanked (t : Naming) (r : Ranked) : Type 0 where
  pub name : List ℕ
  pub called : IsNamed t name r.entry
  pub ranks : r.rank ≡ rank name

-- one of these has this name and is not greater than `item`
pub record HasRanked (t : Naming) (text : List ℕ) (ranked : List Ranked) (item : ℕ) : Type 0 where
  pub one : Ranked
  pub there : Contains ranked one
  pub called : IsNamed t text one.entry
  pub least : one.entry.item ≤ item

-- each is one of the items with the rank of its name, and the least item of each name is among them
pub record Ranks (t : Naming) (items : List NamedItem) (ranked : List Ranked) : Type 0 where
  pub inside : (r : Ranked) → Contains ranked r → Contains items r.entry
  pub right : (r : Ranked) → Contains ranked r → IsRanked t r
  pub all : (e : NamedItem) (text : List ℕ) → Contains items e → IsNamed t text e
      → HasRanked t text ranked e.item
