-- Rows filled by a visit. Source: ours.
use Rattle.std.specs.Prelude.{◌≡◌, ◌<◌, ◌≤◌, ℕ, ◌+◌, min, List, length, slice_get, Option, Some, None, Result, Ok, Err, option_and_then}
use Rattle.ctf_c.specs.Given.{status_of}
use Rattle.ctf_c.specs.Rowed.{lists_with}
use Rattle.ctf_c.specs.names.Filling.{Fills}
use Rattle.ctf_c.specs.names.Places.{text_in}
use Rattle.ctf_c.specs.names.Visits.{Visited, stands_for}
use Rattle.ctf_c.specs.declared.visits.GivenVisitRow.{GivenVisitRow}
use Rattle.ctf_model.specs.declared.faults.Fault.{Fault}
use Rattle.ctf_model.specs.format.Lists.{Lists}
use Rattle.ctf_model.specs.opened.Open.{Open, space_in}

-- the row of a member whose name is in these lists
abbrev pub TellsVisited : Option Lists → Visited → GivenVisitRow → Type 0
TellsVisited lists v row =
    (option_and_then (λ s. text_in s row.name_list row.name_at) lists ≡ Some v.name)
    × (row.offset ≡ v.offset) × (row.tnum ≡ v.tnum) × (row.holder ≡ v.holder)
    × (row.depth ≡ v.depth)

-- the type that a type resolves to; 0 if none
abbrev pub stands_in : Option Open → ℕ → ℕ
stands_in None t = 0
stands_in (Some s) t = stands_for (space_in s) t

-- the name is in the lists of the dictionary with the struct or union, and the row gives the
-- resolved type
abbrev pub TellsIn : Option Open → Visited → GivenVisitRow → Type 0
TellsIn s v row =
    (TellsVisited (lists_with s v.holder) v row) × (row.stands_for ≡ stands_in s v.tnum)

-- the rows from an index on are filled with the items as far as they go, and the others are
-- unchanged; the result is the next index, or one more than the rows if they do not suffice
pub record FillsOn {A R : Type 0} (Tells : A → R → Type 0) (items : List A) (from : ℕ)
    (answer : ℕ) (old new : List R) : Type 0 where
  pub many : length new ≡ length old
  pub answered : answer ≡ min (from + length items) (length old + 1)
  pub told : (i : ℕ) (x : A) (r : R) → slice_get items i ≡ Some x
      → slice_get new (from + i) ≡ Some r → Tells x r
  pub before : (i : ℕ) → i < from → slice_get new i ≡ slice_get old i
  pub behind : (i : ℕ) → from + length items ≤ i → slice_get new i ≡ slice_get old i

-- the same from the first row on, for a list if there is one; otherwise no row changes
abbrev pub Visits : {A R : Type 0} → (A → R → Type 0) → Result (List A) Fault → Result ℕ Fault
    → List R → List R → Type 0
Visits Tells (Ok items) answer old new =
    (answer ≡ Ok (min (length items) (length old + 1))) × Fills Tells items 0 old new
Visits Tells (Err fault) answer old new = (answer ≡ Err fault) × (new ≡ old)

-- the rows are filled with a visit as far as they go, and its length is given, or one more than the
-- rows; or the status gives the refusal, and the output is unchanged
abbrev pub GivesVisit : {A R : Type 0} → (A → R → Type 0) → Result (List A) Fault → ℕ
    → List R → List R → ℕ → ℕ → Type 0
GivesVisit Tells (Ok items) status old new was is =
    (status ≡ 0) × (is ≡ min (length items) (length old + 1)) × Fills Tells items 0 old new
GivesVisit Tells (Err fault) status old new was is =
    (status ≡ status_of fault) × (new ≡ old) × (is ≡ was)
