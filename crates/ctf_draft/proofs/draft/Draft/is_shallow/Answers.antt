use Rattle.std.proofs.Common.{ap, sym, subst, ◌∙◌}
use Rattle.ctf_model.specs.drafts.Drafts.{Draft}
use Rattle.ctf_draft.specs.Bounding.{IsBounded}
use Rattle.ctf_draft.proofs.Planned.{bounded_shallow}
use Rattle.ctf_draft.proofs.draft.Draft.is_shallow.Goals as goal

pub returns-in-Some : goal.returns-in-Some
returns-in-Some c =
    let d = c.args.self.now.draft in
    let ok = subst (λ (e : Draft). IsBounded e c.self.inside.depths) (ap (λ o. o.draft) c.self.view_is) c.self.invariant.6 in
    λ yes. bounded_shallow d c.self.inside.depths ok c.args.tnum.0 c.in-Some.i (sym c.own_index.ensures ∙ c.in-Some.is) (c.is_shallow.ensures yes)
