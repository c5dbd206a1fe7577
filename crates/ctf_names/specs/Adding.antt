-- Appending a text to bytes. Source: ours.
use Rattle.std.specs.Prelude.{ℕ, ◌++◌, List, Result, Ok, Err}
use Rattle.ctf_model.specs.declared.faults.Fault.{Fault}

-- the old bytes with the text appended
abbrev pub append_text : List ℕ → Result (List ℕ) Fault → Result (List ℕ) Fault
append_text old (Ok text) = Ok (old ++ text)
append_text old (Err fault) = Err fault
