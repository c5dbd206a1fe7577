use Rattle.std.proofs.Common.{◌+◌, ◌≤◌, ◌<◌, ◌^◌, length}
use Rattle.ctf_model.specs.symbols.Symbols.{with_types, considered_from, symbols_of}
use Rattle.ctf_entries.specs.NamesView.{strings_of}
use Rattle.ctf_symbols.specs.Kept.{lefts_from}
use Rattle.ctf_symbols.specs.Named.{called_symbol, program_names}
use Rattle.ctf_symbols.proofs.Itemizing.{GoesOn}
use Rattle.ctf_symbols.proofs.Passing.{Passes}
use Rattle.ctf_symbols.proofs.building.list.Given as goal

abbrev pub invariant-symbols : goal.invariant-symbols
invariant-symbols l =
    let strs = strings_of l.names in
    Passes strs (lefts_from 0 (symbols_of strs l.sym) l.fn.objects l.fn.functions) l.lefts.items l.number l.rest l.objects l.functions
    × GoesOn (program_names strs) called_symbol (with_types (symbols_of strs l.sym)) l.items.items (considered_from l.number (symbols_of strs l.rest))
    × (l.number + length l.rest ≤ 2 ^ 63)
    × (length l.objects < 2 ^ 32)
    × (length l.functions < 2 ^ 32)

abbrev pub decreases-symbols : goal.decreases-symbols
decreases-symbols l = length l.rest
