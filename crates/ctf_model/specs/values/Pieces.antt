-- The text of a value as pieces in sequence, with a fault if it could not be completed. Source:
-- ours.
use Rattle.std.specs.Prelude.{ℕ, ◌++◌, nat_lt, List, [], ◌∷◌, length, Option, Some, None, Result, Ok, Err, codes, if◌then◌else◌}
use Rattle.ctf_model.specs.names.TypeNames.{longest_text, too_long}
use Rattle.ctf_model.specs.declared.faults.Fault.{Fault}

pub record Pieces : Type 0 where
  -- the joined text before the end
  pub text : List ℕ
  -- the fault that ended it; none if complete
  pub fault : Option Fault

-- a single piece
abbrev pub piece : List ℕ → Pieces
piece text = record { text = text; fault = None }

abbrev pub no_pieces : Pieces
no_pieces = piece []

abbrev pub ends : Fault → Pieces
ends fault = record { text = []; fault = Some fault }

abbrev pub goes_on : List ℕ → Option Fault → Pieces → Pieces
goes_on text None next = record { text = text ++ next.text; fault = next.fault }
goes_on text (Some fault) next = record { text = text; fault = Some fault }

-- the first pieces, then the next; after a fault nothing follows
unfoldable pub then_pieces : Pieces → Pieces → Pieces
then_pieces first next = goes_on first.text first.fault next

abbrev pub each_behind_comma : List Pieces → Pieces
each_behind_comma [] = no_pieces
each_behind_comma (x ∷ xs) = then_pieces (piece (codes ", ")) (then_pieces x (each_behind_comma xs))

-- in sequence, separated by commas
abbrev pub separate : List Pieces → Pieces
separate [] = no_pieces
separate (x ∷ xs) = then_pieces x (each_behind_comma xs)

abbrev pub between : List ℕ → List ℕ → Pieces → Pieces
between first last inside = then_pieces (piece first) (then_pieces inside (piece last))

-- ---- the answer

abbrev pub ended_by : Option Fault → List ℕ → Result (List ℕ) Fault
ended_by None text = Ok text
ended_by (Some fault) text = Err fault

-- a text that is too long is refused, even if it ended with a fault; else the fault or the text
abbrev pub text_or_fault : Pieces → Result (List ℕ) Fault
text_or_fault pieces =
    if nat_lt longest_text (length pieces.text) then Err too_long
    else ended_by pieces.fault pieces.text
