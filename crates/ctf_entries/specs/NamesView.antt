-- What `SymbolNames` shows.
use Rattle.std.specs.Prelude.{ℕ, List, Option, option_copied}
use Rattle.ctf_entries.specs.declared.symbol_strings.SymbolNames.{SymbolNames}

-- the string table, if present
abbrev pub strings_of : SymbolNames → Option (List ℕ)
strings_of n = option_copied n.strs
