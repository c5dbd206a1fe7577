use Rattle.std.proofs.Common.{ap, sym, ◌∙◌}
use Rattle.ctf_model.specs.drafts.Drafts.{content}
use Rattle.ctf_model.specs.figures.Figures.{comes_to, parents_figure, sizing}
use Rattle.ctf_model.proofs.Settled.{most_is}
use Rattle.ctf_draft.proofs.draft.Draft.size.Goals as goal

pub returns : goal.returns
returns c =
    let d = c.args.self.now.draft in
    c.size_within.ensures ∙ ap (λ k. comes_to (sizing d.model) (parents_figure (sizing d.model) d.parent) (content d) k c.args.n.0) (sym most_is)
