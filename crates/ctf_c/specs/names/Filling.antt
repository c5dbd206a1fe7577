-- Rows of a caller that are filled with items of a list. Source: ours.
use Rattle.std.specs.Prelude.{◌≡◌, ◌≤◌, ℕ, ◌+◌, List, length, slice_get, Option, Some, Result, Ok, Err, option_and_then}
use Rattle.ctf_model.specs.declared.faults.Fault.{Fault}
use Rattle.ctf_model.specs.format.Lists.{Lists}
use Rattle.ctf_model.specs.format.Term.{Enumerator, Member}
use Rattle.ctf_c.specs.names.Places.{text_in}
use Rattle.ctf_c.specs.declared.rows.GivenEnumeratorRow.{GivenEnumeratorRow}
use Rattle.ctf_c.specs.declared.rows.GivenMemberRow.{GivenMemberRow}

-- the rows give the items from an index on, as far as both go; rows after them are unchanged
pub record Fills {A R : Type 0} (Tells : A → R → Type 0) (items : List A) (from : ℕ)
    (old new : List R) : Type 0 where
  pub many : length new ≡ length old
  pub told : (i : ℕ) (x : A) (r : R) → slice_get items (from + i) ≡ Some x
      → slice_get new i ≡ Some r → Tells x r
  pub stays : (i : ℕ) → length items ≤ from + i → slice_get new i ≡ slice_get old i

-- the same for a list, if there is one, with the number of its items; otherwise no row changes
abbrev pub FillsFrom : {A R : Type 0} → (A → R → Type 0) → Result (List A) Fault → ℕ
    → Result ℕ Fault → List R → List R → Type 0
FillsFrom Tells (Ok items) from answer old new =
    (answer ≡ Ok (length items)) × Fills Tells items from old new
FillsFrom Tells (Err fault) from answer old new = (answer ≡ Err fault) × (new ≡ old)

-- the row of an enumerator: where its name is, and its value
abbrev pub TellsEnumerator : Option Lists → Enumerator → GivenEnumeratorRow → Type 0
TellsEnumerator lists e row =
    (option_and_then (λ s. text_in s row.name_list row.name_at) lists ≡ Some e.name)
    × (row.value ≡ e.value)

-- the row of a member: where its name is, its type and its offset
abbrev pub TellsMember : Option Lists → Member → GivenMemberRow → Type 0
TellsMember lists m row =
    (option_and_then (λ s. text_in s row.name_list row.name_at) lists ≡ Some m.name)
    × (row.tnum ≡ m.tnum) × (row.offset ≡ m.offset)
