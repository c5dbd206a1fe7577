use Rattle.std.proofs.Common.{sym, ◌∙◌}
use Rattle.ctf_model.specs.format.Dictionary.{said_by}
use Rattle.ctf_model.specs.drafts.Drafts.{content}
use Rattle.ctf_model.specs.figures.Figures.{aligning, parents_figure}
use Rattle.ctf_space.specs.SpaceView.{space_alone}
use Rattle.ctf_draft.proofs.Figuring.{none_step, parents_step}
use Rattle.ctf_draft.proofs.draft.Draft.align_elsewhere.Goals as goal

pub returns-then-n-eq0 : goal.returns-then-n-eq0
returns-then-n-eq0 c =
    let d = c.args.self.now.draft in
    λ k. rw c.placeless.ensures (sym (none_step (aligning d.model) (parents_figure (aligning d.model) d.parent) (content d) k c.args.n.0 c.if-n-eq0.true))

pub returns-in-Some : goal.returns-in-Some
returns-in-Some c =
    let d = c.args.self.now.draft in
    let p = said_by c.in-Some.parent.now.judged.value.kept.lists in
    let h = rw c.in-Some.is at c.parent_of.ensures in
    λ k. c.align.ensures.align (space_alone p d.model) h.fits ∙ sym (parents_step d p d.model (aligning d.model) k c.args.n.0 h.index h.is h.at)
