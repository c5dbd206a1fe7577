-- The byte lists that make up a dictionary as input. Source: ours.
use Rattle.std.specs.Prelude.{ℕ, List, [], Option, None}
use Rattle.ctf_model.specs.format.Header.{section}
use Rattle.ctf_model.specs.format.Name.{Tables}
use Rattle.ctf_model.specs.declared.sections.Section.TheVariants.{SStrings}

-- the CTF section, and the program's symbol table and its strings if present
pub record Lists : Type 0 where
  pub ctf : List ℕ
  pub sym : Option (List ℕ)
  pub strs : Option (List ℕ)

-- no lists given yet
abbrev pub no_lists : Lists
no_lists = record { ctf = []; sym = None; strs = None }

-- the string tables of a dictionary
abbrev pub tables : Lists → Tables
tables s = record { internal = section s.ctf SStrings; elf = s.strs }
