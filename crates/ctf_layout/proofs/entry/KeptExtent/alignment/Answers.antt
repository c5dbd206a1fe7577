use Rattle.std.proofs.Common.{ap, ◌∙◌}
use Rattle.ctf_layout.specs.declared.extents.Extent.{Extent}
use Rattle.ctf_layout.proofs.Entries.{same_extent}
use Rattle.ctf_layout.proofs.entry.KeptExtent.alignment.Goals as goal

pub returns : goal.returns
returns c = λ e h. c.amount.ensures ∙ ap (λ (x : Extent). x.align) (same_extent c.args.self.sized _ e h)
