use Rattle.std.proofs.Common.{◌∙◌}
use Rattle.ctf_model.specs.figures.Figures.{resolving}
use Rattle.ctf_layout.proofs.Answered.{answered}
use Rattle.ctf_layout.proofs.layout.Layout.resolve.Goals as goal

pub returns-clause-answered : goal.returns-clause-answered
returns-clause-answered c = λ s fits some. c.get.ensures ∙ (c.extent.ensures s fits).resolves ∙ answered resolving s c.args.number.0 some fits.parent.plain
