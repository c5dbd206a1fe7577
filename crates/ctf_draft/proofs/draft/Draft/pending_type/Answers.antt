use Rattle.std.proofs.Common.{ap, arith, subst}
use Rattle.ctf_draft.specs.ParentView.{parent_in}
use Rattle.ctf_model.specs.drafts.DraftLaws.{IsSound}
use Rattle.ctf_draft.proofs.Pending.{body_here}
use Rattle.ctf_draft.proofs.draft.Draft.pending_type.Goals as goal

pub returns-clause-body : goal.returns-clause-body
returns-clause-body c =
    let d = c.self.inside in
    let parent = parent_in d.parent in
    body_here d.parname d.parlabel parent d.model d.updated d.updated_labels d.types.items d.labels c.args.n.0 c.args.i c.index.result.now c.index.ensures (omega (arith, c.self.invariant.0, d.types.ok.0)) c.args.self.now.draft (ap (λ o. o.draft) c.self.view_is) c.requires

pub returns-clause-sound : goal.returns-clause-sound
returns-clause-sound c = subst IsSound (ap (λ o. o.draft) c.self.view_is) c.self.invariant.4
