use Rattle.std.proofs.Common.{ap, sym, refl, ◌∙◌, arith}
use Rattle.ctf_layout.proofs.Tables.{same_some}
use Rattle.ctf_model.specs.format.Dictionary.{said_by}
use Rattle.ctf_model.specs.spaces.TypePlaces.{place}
use Rattle.ctf_draft.specs.ParentView.{parent_in}
use Rattle.ctf_draft.proofs.Pending.{none_at, seen_type, taken_at}
use Rattle.ctf_draft.proofs.draft.Draft.width_at.Goals as goal

pub returns-then-i-len : goal.returns-then-i-len
returns-then-i-len c =
    let d = c.self.inside in
    let at = ap (λ b. place b c.args.n.0) (same_some (λ p. said_by p.judged.value.kept.lists) d.parent) ∙ sym (c.place.ensures ∙ ap (λ b. place b c.args.n.0) c.is_some.ensures) ∙ c.in-Own.is in
    let here = seen_type d.parname d.parlabel (parent_in d.parent) d.model d.updated d.updated_labels d.types.items d.labels c.args.n.0 c.in-Own.i c.args.self.now.draft (ap (λ o. o.draft) c.self.view_is) at in
    rw (c.width.ensures, here, taken_at d.types.items c.in-Own.i c.index.result.now (omega (arith, c.len.ensures, d.types.ok.0)) c.index.ensures) refl

pub returns-else-i-len : goal.returns-else-i-len
returns-else-i-len c =
    let d = c.self.inside in
    let at = ap (λ b. place b c.args.n.0) (same_some (λ p. said_by p.judged.value.kept.lists) d.parent) ∙ sym (c.place.ensures ∙ ap (λ b. place b c.args.n.0) c.is_some.ensures) ∙ c.in-Own.is in
    let here = seen_type d.parname d.parlabel (parent_in d.parent) d.model d.updated d.updated_labels d.types.items d.labels c.args.n.0 c.in-Own.i c.args.self.now.draft (ap (λ o. o.draft) c.self.view_is) at in
    rw (c.placeless-else-i-len.ensures, here, none_at d.types.items c.in-Own.i (omega (arith, c.len.ensures, d.types.ok.0))) refl
