-- Results whose fault, if any, is in the table.
use Rattle.std.proofs.Common.{◌≡◌, ℕ, List, [], ◌∷◌, Bool, true, false, Option, Some, None, Result, Ok, Err, refl}
use Rattle.std.specs.Prelude.{if◌then◌else◌}
use Rattle.ctf_model.specs.rules.Faults.{or_later}
use Rattle.ctf_model.specs.rules.Judgements.{Row, first_met, unless, ◌then◌}
use Rattle.ctf_model.specs.rules.Refusals.{placeless}
use Rattle.ctf_model.specs.symbols.SymbolQuestions.{or_refused}
use Rattle.ctf_model.specs.declared.faults.Fault.{Fault}
use Rattle.ctf_protocol.specs.sessions.RefusalLaws.{has_row}

abbrev pub good : {A : Type 0} → Result A Fault → Bool
good (Ok a) = true
good (Err f) = has_row f.code

abbrev pub good_fault : Option Fault → Bool
good_fault None = true
good_fault (Some f) = has_row f.code

pub either : {A : Type 0} → (t : Bool) (a b : Result A Fault) → good a ≡ true → good b ≡ true → good (if t then a else b) ≡ true
either true a b ga gb = ga
either false a b ga gb = gb

pub told : {A : Type 0} → (r : Result A Fault) (f : Fault) → good r ≡ true → r ≡ Err f → has_row f.code ≡ true
told (Ok a) f g e = absurd cc
told (Err h) f g e =
    let same : h ≡ f = cc in
    rw (← same) g

-- ---- orders of refusal

abbrev pub all_rows : List Row → Bool
all_rows [] = true
all_rows (row ∷ rows) = if has_row row.code then all_rows rows else false

first_of : (t : Bool) (rows : List Row) → (if t then all_rows rows else false) ≡ true → t ≡ true
first_of true rows h = refl
first_of false rows h = absurd cc

rest_of : (t : Bool) (rows : List Row) → (if t then all_rows rows else false) ≡ true → all_rows rows ≡ true
rest_of true rows h = h
rest_of false rows h = absurd cc

met_first : (t : Bool) (row : Row) (later : Option Fault) → has_row row.code ≡ true → good_fault later ≡ true → good_fault (if t then Some (placeless row.code) else later) ≡ true
met_first true row later h g = h
met_first false row later h g = g

pub met : (rows : List Row) → all_rows rows ≡ true → good_fault (first_met rows) ≡ true
met [] h = refl
met (row ∷ rows) h = met_first row.met row (first_met rows) (first_of (has_row row.code) rows h) (met rows (rest_of (has_row row.code) rows h))

pub unless_good : {A : Type 0} → (fault : Option Fault) (r : Result A Fault) → good_fault fault ≡ true → good r ≡ true → good (unless fault r) ≡ true
unless_good None r h g = g
unless_good (Some f) r h g = h

pub then_good : {A : Type 0} → (r : Result ℕ Fault) (next : ℕ → Result A Fault) → good r ≡ true → ((n : ℕ) → good (next n) ≡ true) → good (r then next) ≡ true
then_good (Err f) next g h = g
then_good (Ok n) next g h = h n

pub later : (code : ℕ) (place : Option ℕ) (rest : Option Fault) → has_row code ≡ true → good_fault rest ≡ true → good_fault (or_later code place rest) ≡ true
later code None rest h g = g
later code (Some p) rest h g = h

pub refused : {A : Type 0} → (code : ℕ) (x : Option A) → has_row code ≡ true → good (or_refused code x) ≡ true
refused code None h = h
refused code (Some a) h = refl
