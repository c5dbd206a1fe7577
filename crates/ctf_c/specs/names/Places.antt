-- Where names are in the lists of a dictionary. Source: ours.
use Rattle.std.specs.Prelude.{ℕ, ◌==◌, List, [], Option, Some, None, if◌then◌else◌}
use Rattle.ctf_model.specs.format.Lists.{Lists}
use Rattle.ctf_model.specs.format.Name.{text_at}

-- the text at an offset: list 0 is the CTF section, 1 the strings of the symbol table, and 2 the
-- empty text
abbrev pub text_in : Lists → ℕ → ℕ → Option (List ℕ)
text_in s list at =
    if list == 0 then text_at (Some s.ctf) at
    else if list == 1 then text_at s.strs at
    else if list == 2 then Some [] else None
