-- The first item of a list that passes a test, as ctf_enum_name and ctf_enum_value of libctf(3LIB)
-- look for enumerators. Source: ours.
use Rattle.std.specs.Prelude.{ℕ, ℤ, Bool, List, bytes_eq, find, Result, Ok, Err}
use Rattle.std.specs.Ordering.{int_eq}
use Rattle.ctf_model.specs.declared.faults.Fault.{Fault}
use Rattle.ctf_model.specs.declared.faults.TheConstants.Fault.{NO_MEMBER}
use Rattle.ctf_model.specs.format.Shown.{Shape}
use Rattle.ctf_model.specs.format.Term.{Enumerator}
use Rattle.ctf_model.specs.opened.Questions.{enumerators_answered}
use Rattle.ctf_model.specs.symbols.SymbolQuestions.{or_refused}

-- in a list, if there is one
abbrev pub first_among : {A : Type 0} → (A → Bool) → Result (List A) Fault → Result A Fault
first_among test (Ok items) = or_refused NO_MEMBER (find test items)
first_among test (Err fault) = Err fault

-- the first enumerator with a value, or with a name
abbrev pub valued_answered : ℤ → Shape → Result Enumerator Fault
valued_answered value x = first_among (λ e. int_eq e.value value) (enumerators_answered x)

abbrev pub named_answered : List ℕ → Shape → Result Enumerator Fault
named_answered name x = first_among (λ e. bytes_eq name e.name) (enumerators_answered x)
