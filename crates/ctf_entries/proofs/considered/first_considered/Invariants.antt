use Rattle.std.proofs.Common.{◌≡◌, ◌+◌, ◌≤◌, ◌^◌, length}
use Rattle.ctf_model.specs.symbols.Symbols.{considered_from, symbols_of}
use Rattle.ctf_entries.specs.NamesView.{strings_of}
use Rattle.ctf_entries.proofs.considered.first_considered.Given as goal

abbrev pub invariant-symbols : goal.invariant-symbols
invariant-symbols l = (l.number + length l.rest ≤ 2 ^ 63) × (considered_from l.number (symbols_of (strings_of l.names) l.rest) ≡ considered_from l.fn.number (symbols_of (strings_of l.names) l.sym))

abbrev pub decreases-symbols : goal.decreases-symbols
decreases-symbols l = length l.rest
