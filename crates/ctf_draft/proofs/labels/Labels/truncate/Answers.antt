use Rattle.std.proofs.Common.{sym, ap, ◌∙◌}
use Rattle.std.proofs.lemmas.List.{take-map}
use Rattle.ctf_draft.specs.LabelView.{label_in, labels_in}
use Rattle.ctf_draft.proofs.labels.Labels.truncate.Goals as goal

pub returns : goal.returns
returns c = rw (← c.self.view_is) (ap labels_in c.truncate.ensures.entries ∙ sym (take-map label_in c.args.len c.self.inside.map.entries))
