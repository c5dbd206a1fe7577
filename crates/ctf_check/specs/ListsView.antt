-- The lists that a dictionary is made from, and what lent ones show.
use Rattle.std.specs.Prelude.{ℕ, List, Option, option_copied}
use Rattle.ctf_model.specs.format.Lists.{Lists}
use Rattle.ctf_check.specs.declared.lists.LentLists.{LentLists}

-- a CTF section, a symbol table and its strings
abbrev pub given : List ℕ → Option (List ℕ) → Option (List ℕ) → Lists
given ctf sym strs = record { ctf = ctf; sym = sym; strs = strs }

abbrev pub lists_in : LentLists → Lists
lists_in l = record { ctf = l.ctf.now; sym = option_copied l.sym; strs = option_copied l.strs }
