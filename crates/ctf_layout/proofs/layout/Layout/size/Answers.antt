use Rattle.std.proofs.Common.{◌∙◌}
use Rattle.ctf_model.specs.figures.Figures.{sizing}
use Rattle.ctf_layout.proofs.Answered.{answered}
use Rattle.ctf_layout.proofs.layout.Layout.size.Goals as goal

pub returns-clause-answered : goal.returns-clause-answered
returns-clause-answered c = λ s fits some. c.get.ensures ∙ (c.extent.ensures s fits).sized ∙ answered (sizing s.model) s c.args.number.0 some fits.parent.plain
