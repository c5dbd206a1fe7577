-- The symbols and entries that are still to be read.
use Rattle.std.specs.Prelude.{◌≡◌, ℕ, ◌+◌, List, ◌∷◌}
use Rattle.ctf_model.specs.symbols.Entries.{Entry, entries_of}
use Rattle.ctf_model.specs.symbols.Symbols.{Symbol, considered_from, symbols_of}
use Rattle.ctf_entries.specs.NamesView.{strings_of}
use Rattle.ctf_entries.specs.SymbolView.{number_and_symbol}
use Rattle.ctf_entries.specs.declared.considered.FirstSymbol.{FirstSymbol}
use Rattle.ctf_entries.specs.declared.unread.Unread.{Unread}

-- the considered ones among the remaining symbols
abbrev pub symbols_left : Unread → List (ℕ × Symbol)
symbols_left r = considered_from r.number (symbols_of (strings_of r.names) r.sym.now)

-- their entries
abbrev pub entries_left : Unread → List Entry
entries_left r = entries_of (symbols_left r) r.objects.now r.functions.now

-- `f` is the first of them, and the rest after it
abbrev pub IsFirst : Unread → FirstSymbol → Type 0
IsFirst r f =
    symbols_left r
    ≡ number_and_symbol f.first
    ∷ considered_from (f.first.number + 1) (symbols_of (strings_of r.names) f.behind.now)
