use Rattle.std.proofs.Common.{ap, subst}
use Rattle.ctf_model.specs.drafts.Drafts.{Draft}
use Rattle.ctf_draft.specs.Bounding.{IsBounded}
use Rattle.ctf_draft.proofs.Planned.{bounded_shallow, found_shallow}
use Rattle.ctf_draft.proofs.draft.Draft.shallow_align.Goals as goal

pub returns : goal.returns
returns c =
    let d = c.args.self.now.draft in
    let ok = subst (λ (e : Draft). IsBounded e c.self.inside.depths) (ap (λ o. o.draft) c.self.view_is) c.self.invariant.6 in
    found_shallow d c.args.tnum.0 c.align_within.result (bounded_shallow d c.self.inside.depths ok c.args.tnum.0 c.args.i c.requires.own (c.is_shallow.ensures c.if-not-is_shallow.false)) c.align_within.ensures
