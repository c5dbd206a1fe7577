-- The division of the input into lines. Source: ours; a line ends at a newline, byte 10.
use Rattle.std.specs.Prelude.{ℕ, ◌==◌, List, [], ◌∷◌, ◌++◌, length, Option, Some, None, nat_le, if◌then◌else◌}

-- the lines, with `b` put before the first one
abbrev pub onto_first : ℕ → List (List ℕ) → List (List ℕ)
onto_first b [] = []
onto_first b (line ∷ lines) = (b ∷ line) ∷ lines

-- the lines that end with a newline, without it
abbrev pub whole_lines : List ℕ → List (List ℕ)
whole_lines [] = []
whole_lines (b ∷ bs) = if b == 10 then [] ∷ whole_lines bs else onto_first b (whole_lines bs)

-- the unfinished piece, with `b` put before it if no newline comes between
abbrev pub onto_last : ℕ → List (List ℕ) → List ℕ → List ℕ
onto_last b [] piece = b ∷ piece
onto_last b (line ∷ lines) piece = piece

-- the bytes after the last newline
abbrev pub last_piece : List ℕ → List ℕ
last_piece [] = []
last_piece (b ∷ bs) =
    if b == 10 then last_piece bs else onto_last b (whole_lines bs) (last_piece bs)

-- a non-empty last piece counts as a line
abbrev pub if_not_empty : List ℕ → List (List ℕ)
if_not_empty [] = []
if_not_empty (b ∷ bs) = (b ∷ bs) ∷ []

-- all lines of the input
abbrev pub all_lines : List ℕ → List (List ℕ)
all_lines bs = whole_lines bs ++ if_not_empty (last_piece bs)

-- the longest accepted line, in bytes without its newline
abbrev pub longest_line : ℕ
longest_line = 1048576

-- the line, or none if it is too long
abbrev pub stored_line : List ℕ → Option (List ℕ)
stored_line line = if nat_le (length line) longest_line then Some line else None
