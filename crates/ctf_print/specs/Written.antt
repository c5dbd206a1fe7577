-- Appending the text of a value. Source: ours.
use Rattle.std.specs.Prelude.{◌≡◌, ◌⊎◌, ℕ, ◌+◌, ◌==◌, ◌++◌, nat_lt, List, [], ◌∷◌, length, Result, Ok, Err, codes, if◌then◌else◌}
use Rattle.ctf_model.specs.values.Pieces.{Pieces, piece, no_pieces, then_pieces, ended_by}
use Rattle.ctf_model.specs.rules.Refusals.{out_of_memory}
use Rattle.ctf_model.specs.names.TypeNames.{longest_text, too_long}
use Rattle.ctf_model.specs.declared.faults.Fault.{Fault}

-- the old text with the new pieces appended, or the fault
unfoldable pub written : List ℕ → Pieces → Result (List ℕ) Fault
written old pieces =
    if nat_lt longest_text (length (old ++ pieces.text)) then Err too_long
    else ended_by pieces.fault (old ++ pieces.text)

-- the fault is that of the pieces, or out of memory
abbrev pub Refused : List ℕ → Pieces → Fault → Type 0
Refused old pieces fault = (fault ≡ out_of_memory) ⊎ (written old pieces ≡ Err fault)

-- the separator before item `i`
abbrev pub comma_before : ℕ → Pieces
comma_before i = if i == 0 then no_pieces else piece (codes ", ")

-- the remaining items from item `i` on, with separators
abbrev pub separated_from : ℕ → List Pieces → Pieces
separated_from i [] = no_pieces
separated_from i (x ∷ xs) = then_pieces (comma_before i) (then_pieces x (separated_from (i + 1) xs))

-- the old bytes with an answer appended
abbrev pub append_answer : List ℕ → Result (List ℕ) Fault → Result (List ℕ) Fault
append_answer old (Ok text) = Ok (old ++ text)
append_answer old (Err fault) = Err fault
