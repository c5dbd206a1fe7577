-- The offsets of a section's records. Source: ours.
use Rattle.std.specs.Prelude.{ℕ, List, [], ◌∷◌, Result, Ok, Err}
use Rattle.ctf_model.specs.format.Section.{Piece}
use Rattle.ctf_model.specs.declared.faults.Fault.{Fault}

-- the offsets of the records, in order
abbrev pub starts_in : List (Result Piece Fault) → List ℕ
starts_in [] = []
starts_in (Ok piece ∷ rest) = piece.at ∷ starts_in rest
starts_in (Err f ∷ rest) = starts_in rest
