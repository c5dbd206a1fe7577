use Rattle.std.proofs.Common.{◌∙◌}
use Rattle.ctf_model.specs.figures.Figures.{aligning, resolving, sizing}
use Rattle.ctf_layout.proofs.Answered.{answered}
use Rattle.ctf_layout.proofs.layout.Layout.figures.Goals as goal

pub returns-clause-answered : goal.returns-clause-answered
returns-clause-answered c = λ s fits some.
    let is = c.quick_extent.ensures s fits in
    let plain = fits.parent.plain in
    let n = c.args.number.0 in
    record {
      sized = is.sized ∙ answered (sizing s.model) s n some plain;
      aligned = is.aligned ∙ answered (aligning s.model) s n some plain;
      resolves = is.resolves ∙ answered resolving s n some plain;
    }
