use Rattle.std.proofs.Common.{sym, ◌∙◌}
use Rattle.ctf_model.specs.format.Dictionary.{said_by}
use Rattle.ctf_model.specs.figures.Figures.{sizing}
use Rattle.ctf_space.specs.SpaceView.{space_alone}
use Rattle.ctf_draft.proofs.Figuring.{parents_step}
use Rattle.ctf_draft.proofs.draft.Draft.size_elsewhere.Goals as goal

pub returns-in-Some : goal.returns-in-Some
returns-in-Some c =
    let d = c.args.self.now.draft in
    let p = said_by c.in-Some.parent.now.judged.value.kept.lists in
    let h = rw c.in-Some.is at c.parent_of.ensures in
    λ k. c.size.ensures.size (space_alone p d.model) h.fits ∙ sym (parents_step d p d.model (sizing d.model) k c.args.n.0 h.index h.is h.at)
