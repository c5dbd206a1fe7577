-- A text appended to an empty buffer, as an answer.
use Rattle.std.proofs.Common.{◌≡◌, ℕ, List, [], Result, Ok, Err, refl}
use Rattle.ctf_protocol.specs.answers.Answers.{Answer}
use Rattle.ctf_protocol.specs.answers.Questions.{as_fields, name_fields, value_fields}
use Rattle.ctf_model.specs.declared.faults.Fault.{Fault}
use Rattle.ctf_names.specs.Adding.{append_text}
use Rattle.ctf_print.specs.Written as values

name_alone : (name : Result (List ℕ) Fault) (text : List ℕ) → append_text [] name ≡ Ok text → name ≡ Ok text
name_alone (Ok x) text h = h
name_alone (Err fault) text h = h

value_alone : (value : Result (List ℕ) Fault) (text : List ℕ) → values.append_answer [] value ≡ Ok text → value ≡ Ok text
value_alone (Ok x) text h = h
value_alone (Err fault) text h = h

pub named : (old : List ℕ) (name : Result (List ℕ) Fault) (text : List ℕ) (answer : Answer) → old ≡ [] → append_text old name ≡ Ok text → answer ≡ name_fields text → Ok answer ≡ as_fields name_fields name
named old name text answer none h is =
    let alone : name ≡ Ok text = name_alone name text (rw none at h) in
    rw (is, alone) refl

pub shown : (old : List ℕ) (value : Result (List ℕ) Fault) (text : List ℕ) (answer : Answer) → old ≡ [] → values.append_answer old value ≡ Ok text → answer ≡ value_fields text → Ok answer ≡ as_fields value_fields value
shown old value text answer none h is =
    let alone : value ≡ Ok text = value_alone value text (rw none at h) in
    rw (is, alone) refl
