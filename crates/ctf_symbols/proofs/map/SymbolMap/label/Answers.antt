use Rattle.std.proofs.Common.{None, Some, ap, sym, ◌∙◌}
use Rattle.ctf_model.specs.format.Name.{name}
use Rattle.ctf_check.specs.CheckedView.{lists_of}
use Rattle.ctf_symbols.proofs.Finding.{found_label, label_refused, label_said}
use Rattle.ctf_symbols.proofs.map.SymbolMap.label.Goals as goal

pub returns-in_default : goal.returns-in_default
returns-in_default c =
    let s = lists_of c.args.dictionary.now in
    let found = found_label s _ c.args.name.now _ None (ap name c.strings.ensures) c.requires.fits.labels c.in_default.ensures in
    rw c.placeless.ensures (label_refused s c.args.name.now found)

pub returns-in-Some-last_at : goal.returns-in-Some-last_at
returns-in-Some-last_at c =
    let s = lists_of c.args.dictionary.now in
    let found = found_label s _ c.args.name.now _ (Some c.in-Some.label) (ap name c.strings.ensures) c.requires.fits.labels c.in-Some.ensures in
    label_said s c.args.name.now c.in-Some-last_at.last (found ∙ sym (rw c.labels.ensures at c.in-Some-last_at.ensures))

pub returns-in-None : goal.returns-in-None
returns-in-None c =
    let s = lists_of c.args.dictionary.now in
    let found = found_label s _ c.args.name.now _ (Some c.in-Some.label) (ap name c.strings.ensures) c.requires.fits.labels c.in-Some.ensures in
    rw c.placeless-in-None.ensures (label_refused s c.args.name.now (found ∙ sym (rw c.labels.ensures at c.in-None.ensures)))
