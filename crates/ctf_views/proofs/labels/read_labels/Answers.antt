use Rattle.std.proofs.Common.{◌∙◌, sym}
use Rattle.std.proofs.lemmas.Option.{same_Some}
use Rattle.ctf_sections.specs.StringsView.{tables}
use Rattle.ctf_views.proofs.Labelled.{labels_good, labels_read}
use Rattle.ctf_views.proofs.labels.read_labels.Goals as goal

pub new-requires : goal.new-requires
new-requires c = labels_good (tables c.args.strings) c.args.bytes.now c.requires

pub returns : goal.returns
returns c = same_Some _ _ (sym c.new.ensures ∙ labels_read (tables c.args.strings) c.args.bytes.now c.requires)
