-- The records of a section by their numbers.
use Rattle.std.specs.Prelude.{ℕ, ◌==◌, List, [], ◌∷◌, Option, Some, None, Result, Ok, Err, if◌then◌else◌}
use Rattle.ctf_model.specs.format.Section.{Piece}
use Rattle.ctf_model.specs.declared.faults.Fault.{Fault}

-- the record with number `n`, if it is read before a fault
abbrev pub piece_numbered : List (Result Piece Fault) → ℕ → Option Piece
piece_numbered [] n = None
piece_numbered (Ok p ∷ rest) n = if p.index == n then Some p else piece_numbered rest n
piece_numbered (Err f ∷ rest) n = None
