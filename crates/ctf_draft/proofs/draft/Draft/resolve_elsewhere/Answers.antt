use Rattle.std.proofs.Common.{◌≡◌, ap, sym, ◌∙◌}
use Rattle.ctf_model.specs.format.Dictionary.{said_by}
use Rattle.ctf_model.specs.figures.Figures.{resolving, resolved_type}
use Rattle.ctf_model.specs.format.Lists.{Lists}
use Rattle.ctf_model.specs.spaces.Space.{Space}
use Rattle.ctf_space.specs.SpaceView.{space_alone, space_of}
use Rattle.ctf_draft.proofs.Figuring.{parents_step}
use Rattle.ctf_draft.proofs.draft.Draft.resolve_elsewhere.Goals as goal

pub returns-in-Some : goal.returns-in-Some
returns-in-Some c =
    let d = c.args.self.now.draft in
    let model = c.self.inside.model in
    let p = said_by c.in-Some.parent.now.judged.value.kept.lists in
    let h = rw c.in-Some.is at c.parent_of.ensures in
    let same : space_of c.own.result ≡ space_alone p model = c.own.ensures.space ∙ ap (λ (l : Lists). space_alone (said_by l) model) (c.view.ensures ∙ ap (λ k. k.kept.lists) c.deref.ensures) in
    λ k. c.resolve.ensures ∙ ap (λ (s : Space). resolved_type s c.args.n.0) same ∙ sym (parents_step d p model resolving k c.args.n.0 h.index h.is h.at)
