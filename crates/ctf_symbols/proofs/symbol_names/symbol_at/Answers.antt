use Rattle.ctf_entries.specs.NamesView.{strings_of}
use Rattle.ctf_symbols.proofs.Answering.{numbered, unnumbered}
use Rattle.ctf_symbols.proofs.symbol_names.symbol_at.Goals as goal

pub returns-then-number-sym : goal.returns-then-number-sym
returns-then-number-sym c = numbered (strings_of c.args.names) _ _ _ _ c.if-number-sym.true c.from_symbol.ensures c.read.ensures

pub returns-else-number-sym : goal.returns-else-number-sym
returns-else-number-sym c = unnumbered (strings_of c.args.names) _ _ c.if-number-sym.false
