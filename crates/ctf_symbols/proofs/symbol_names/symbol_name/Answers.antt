use Rattle.std.proofs.Common.{Some, None}
use Rattle.ctf_check.specs.CheckedView.{lists_of}
use Rattle.ctf_entries.specs.SymbolView.{symbol}
use Rattle.ctf_symbols.proofs.Answering.{name_said}
use Rattle.ctf_symbols.proofs.symbol_names.symbol_name.Goals as goal

pub returns-in-Some : goal.returns-in-Some
returns-in-Some c =
    let s = lists_of c.args.dictionary.now in
    let p = c.symbol_parts-parts.ensures in
    rw c.name.ensures (name_said s _ _ _ c.args.number (Some (symbol c.in-Some.found)) c.new.ensures p.strs p.sym c.in-Some.ensures)

pub returns-in-None : goal.returns-in-None
returns-in-None c =
    let s = lists_of c.args.dictionary.now in
    let p = c.symbol_parts-parts.ensures in
    rw c.placeless.ensures (name_said s _ _ _ c.args.number None c.new.ensures p.strs p.sym c.in-None.ensures)
