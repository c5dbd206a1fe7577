use Rattle.std.proofs.Common.{◌∙◌}
use Rattle.ctf_draft.proofs.LabelMap.{has_is}
use Rattle.ctf_draft.proofs.labels.Labels.has.Goals as goal

pub returns : goal.returns
returns c = c.contains_key.ensures ∙ rw (← c.self.view_is) (has_is c.args.name.now c.self.inside.map.entries)
