use Rattle.std.proofs.Common.{◌≡◌, List, ℕ, Result, Ok, ap, sym, subst, ◌∙◌, inr}
use Rattle.std.proofs.lemmas.Result.{err_from_is_err_and}
use Rattle.ctf_model.specs.drafts.Adders.{Added, body_at, replace_body, with_member}
use Rattle.ctf_model.specs.drafts.DraftLaws.{IsSound}
use Rattle.ctf_model.specs.drafts.Drafts.{Draft}
use Rattle.ctf_model.specs.declared.faults.Fault.{Fault}
use Rattle.ctf_draft.specs.Planning.{against_name}
use Rattle.ctf_draft.proofs.MemberAdded.{member_accepted, member_barred, refused_or_memory}
use Rattle.ctf_draft.proofs.Sounding.{planned_sound}
use Rattle.ctf_draft.proofs.draft.Draft.member.Goals as goal

pub returns-in_err-i-clause-exact_err : goal.returns-in_err-i-clause-exact_err
returns-in_err-i-clause-exact_err c =
    let p = err_from_is_err_and c.from_residual.result c.from_residual.ensures.1 in
    let d = c.args.self.now.draft in
    rw (p.1, p.2) (inr (member_barred d c.args.n.0 c.args.name c.args.tnum.0 c.args.offset c.in_err-i.field-0.0 (ap (λ (name : List ℕ). against_name d c.args.n.0 name c.args.tnum.0) (sym c.as_slice.ensures) ∙ c.in_err-i.ensures.err)))

pub returns-in_err-plan-clause-exact_err : goal.returns-in_err-plan-clause-exact_err
returns-in_err-plan-clause-exact_err c =
    let p = err_from_is_err_and c.from_residual-in_err-plan.result c.from_residual-in_err-plan.ensures.1 in
    let d = c.args.self.now.draft in
    rw (p.1, p.2) (refused_or_memory d c.args.n.0 c.args.name c.args.tnum.0 c.args.offset c.in_err-plan.field-0.0 (ap (λ (name : List ℕ). against_name d c.args.n.0 name c.args.tnum.0) (sym c.as_slice.ensures) ∙ c.in_ok-i.ensures.ok) c.in_err-plan.ensures.err)

pub returns-clause-ok : goal.returns-clause-ok
returns-clause-ok c =
    let d = c.args.self.now.draft in
    let n = c.args.n.0 in
    let p = c.in_ok-plan.plan in
    let body = with_member (record { name = c.args.name; tnum = c.args.tnum.0; offset = p.offset }) p.size in
    let same = ap (λ o. o.draft) c.plan.ensures.same in
    let after : replace_body d n (body (body_at d n)) ≡ c.put_member.new.self.draft = sym (c.in_ok-put_member.ensures.ok ∙ ap (λ (e : Draft). replace_body e n (body (body_at e n))) same) in
    member_accepted d n c.args.name c.args.tnum.0 c.args.offset p (ap (λ (name : List ℕ). against_name d n name c.args.tnum.0) (sym c.as_slice.ensures) ∙ c.in_ok-i.ensures.ok) c.in_ok-plan.ensures.ok
    ∙ ap (λ (e : Draft). let r : Result Added Fault = Ok (record { draft = e; answer = p.offset }) in r) after

pub put_member-requires-clause-sound : goal.put_member-requires-clause-sound
put_member-requires-clause-sound c =
    let d = c.args.self.now.draft in
    let n = c.args.n.0 in
    let p = c.in_ok-plan.plan in
    let body = with_member (record { name = c.args.name; tnum = c.args.tnum.0; offset = p.offset }) p.size in
    let same = ap (λ o. o.draft) c.plan.ensures.same in
    subst (λ (e : Draft). IsSound e → IsSound (replace_body e n (body (body_at e n)))) (sym same)
    (λ ok. planned_sound d n c.args.name c.args.tnum.0 c.args.offset p ok (ap (λ (name : List ℕ). against_name d n name c.args.tnum.0) (sym c.as_slice.ensures) ∙ c.in_ok-i.ensures.ok) c.in_ok-plan.ensures.ok)
