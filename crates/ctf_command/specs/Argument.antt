-- The publication that an argument NAME=FILE of `ctfd serve` asks for. Source: ours.
use Rattle.std.specs.Prelude.{ℕ, ◌==◌, List, [], ◌∷◌, length, Option, Some, None, nat_lt, if◌then◌else◌}
use Rattle.std.specs.List.{position_or_len, before_first, after_first}
use Rattle.ctf_protocol.specs.sessions.Publications.{is_publication_name}
use Rattle.ctf_command.specs.declared.publications.Wanted.{Wanted}

-- a file, and the name to publish it under
pub record Argument : Type 0 where
  pub name : List ℕ
  pub file : List ℕ

-- the publication, if the name is valid
abbrev pub argument_of : List ℕ → List ℕ → Option Argument
argument_of name file =
    if is_publication_name name then Some (record { name = name; file = file }) else None

-- the first `=` separates name and file; an argument without one is an error
abbrev pub argument_in : List ℕ → Option Argument
argument_in word =
    if nat_lt (position_or_len (λ b. b == 0x3d) word) (length word)
    then argument_of (before_first (λ b. b == 0x3d) word) (after_first (λ b. b == 0x3d) word)
    else None

-- what a wanted publication shows
abbrev pub argument_shown : Wanted → Argument
argument_shown w = record { name = w.name; file = w.file.now }

-- the first publication before the rest, unless either is an error
abbrev pub argument_before : Option Argument → Option (List Argument) → Option (List Argument)
argument_before None rest = None
argument_before (Some asked) None = None
argument_before (Some asked) (Some rest) = Some (asked ∷ rest)

-- the publications of all arguments, in order; none if one of them is an error
abbrev pub all_arguments : List (List ℕ) → Option (List Argument)
all_arguments [] = Some []
all_arguments (word ∷ words) = argument_before (argument_in word) (all_arguments words)
