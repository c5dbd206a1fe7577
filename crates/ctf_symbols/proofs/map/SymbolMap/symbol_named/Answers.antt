use Rattle.std.proofs.Common.{ap, ◌∙◌}
use Rattle.ctf_check.specs.CheckedView.{lists_of}
use Rattle.ctf_symbols.specs.Named.{program_names}
use Rattle.ctf_symbols.proofs.Finding.{found_owner, none_owned}
use Rattle.ctf_symbols.proofs.map.SymbolMap.symbol_named.Goals as goal

pub returns-in_err-number : goal.returns-in_err-number
returns-in_err-number c =
    let d = c.args.dictionary.now in
    let p = c.symbol_parts-parts.ensures in
    rw c.from_residual.ensures (none_owned (lists_of d) _ c.args.name.now _ d.faultless (c.program_texts.ensures ∙ ap program_names p.strs) c.requires.fits.symbols (rw c.in_err-number.was at c.find.ensures))

pub returns : goal.returns
returns c =
    let d = c.args.dictionary.now in
    let p = c.symbol_parts-parts.ensures in
    rw c.class_of-class.ensures (found_owner (lists_of d) _ _ c.args.name.now _ c.in_ok-number.number d.faultless p.sym (c.program_texts.ensures ∙ ap program_names p.strs) c.requires.fits.symbols (rw c.in_ok-number.was at c.find.ensures))
