use Rattle.std.proofs.Common.{◌≡◌, true, false, List, ℕ, Result, Ok, ap, sym, subst, ◌∙◌, inr}
use Rattle.std.specs.List.{list_any}
use Rattle.std.proofs.lemmas.Result.{err_from_is_err_and, on_ok_weaker}
use Rattle.ctf_model.specs.drafts.Adders.{body_at, present_members, replace_body, with_member}
use Rattle.ctf_model.specs.drafts.DraftLaws.{IsSound}
use Rattle.ctf_model.specs.drafts.Drafts.{Draft}
use Rattle.ctf_model.specs.declared.faults.Fault.{Fault}
use Rattle.ctf_draft.specs.Planning.{against_name}
use Rattle.ctf_draft.specs.Stating.{begins_behind}
use Rattle.ctf_draft.specs.TypeView.{member_of}
use Rattle.ctf_draft.proofs.Stated.{any_front, any_last, stated_accepted, stated_barred, stated_behind, stated_deep, stated_sound}
use Rattle.ctf_draft.proofs.draft.Draft.member_at.Goals as goal

pub returns-in_err-i-clause-exact_err : goal.returns-in_err-i-clause-exact_err
returns-in_err-i-clause-exact_err c =
    let p = err_from_is_err_and c.from_residual.result c.from_residual.ensures.1 in
    let d = c.args.self.now.draft in
    let m = member_of c.args.member in
    rw (p.1, p.2) (inr (stated_barred d c.args.n.0 m c.args.size c.in_err-i.field-0.0 (ap (λ (name : List ℕ). against_name d c.args.n.0 name m.tnum) (sym c.as_slice.ensures) ∙ c.in_err-i.ensures.err)))

pub returns-then-branch-clause-exact_err : goal.returns-then-branch-clause-exact_err
returns-then-branch-clause-exact_err c =
    let d = c.args.self.now.draft in
    let m = member_of c.args.member in
    let none = ap (λ (name : List ℕ). against_name d c.args.n.0 name m.tnum) (sym c.as_slice.ensures) ∙ c.in_ok-i.ensures.ok in
    inr (rw c.placeless.ensures (stated_deep d c.args.n.0 m c.args.size none (sym c.in_ok-is_deep.ensures.deep ∙ c.if-branch.true)))

pub returns-then-is_behind-clause-exact_err : goal.returns-then-is_behind-clause-exact_err
returns-then-is_behind-clause-exact_err c =
    let d = c.args.self.now.draft in
    let n = c.args.n.0 in
    let m = member_of c.args.member in
    let size = c.args.size in
    let none = ap (λ (name : List ℕ). against_name d n name m.tnum) (sym c.as_slice.ensures) ∙ c.in_ok-i.ensures.ok in
    let shallow = sym c.in_ok-is_deep.ensures.deep ∙ c.if-branch.false in
    let own : begins_behind size m ≡ true = sym c.is_behind.ensures.behind ∙ c.if-is_behind.true in
    inr (rw c.placeless-then-is_behind.ensures (stated_behind d n m size none shallow c.is_behind.ensures.place_fits c.is_behind.ensures.size_fits (any_last (begins_behind size) (present_members d n) m own)))

pub returns-then-leaves_behind-clause-exact_err : goal.returns-then-leaves_behind-clause-exact_err
returns-then-leaves_behind-clause-exact_err c =
    let d = c.args.self.now.draft in
    let n = c.args.n.0 in
    let m = member_of c.args.member in
    let size = c.args.size in
    let none = ap (λ (name : List ℕ). against_name d n name m.tnum) (sym c.as_slice.ensures) ∙ c.in_ok-i.ensures.ok in
    let shallow = sym c.in_ok-is_deep.ensures.deep ∙ c.if-branch.false in
    let same = ap (λ o. o.draft) c.is_deep.ensures.same in
    let left : list_any (begins_behind size) (present_members d n) ≡ true = ap (λ (e : Draft). list_any (begins_behind size) (present_members e n)) (sym same) ∙ sym c.leaves_behind.ensures ∙ c.if-leaves_behind.true in
    inr (rw c.placeless-then-leaves_behind.ensures (stated_behind d n m size none shallow c.is_behind.ensures.place_fits c.is_behind.ensures.size_fits (any_front (begins_behind size) (present_members d n) m left)))

pub put_member-requires-clause-sound : goal.put_member-requires-clause-sound
put_member-requires-clause-sound c =
    let d = c.args.self.now.draft in
    let n = c.args.n.0 in
    let m = member_of c.args.member in
    let size = c.args.size in
    let none = ap (λ (name : List ℕ). against_name d n name m.tnum) (sym c.as_slice.ensures) ∙ c.in_ok-i.ensures.ok in
    let same = ap (λ o. o.draft) c.is_deep.ensures.same in
    let inside : list_any (begins_behind size) (present_members d n) ≡ false = ap (λ (e : Draft). list_any (begins_behind size) (present_members e n)) (sym same) ∙ sym c.leaves_behind.ensures ∙ c.if-leaves_behind.false in
    let own : begins_behind size m ≡ false = sym c.is_behind.ensures.behind ∙ c.if-is_behind.false in
    subst (λ (e : Draft). IsSound e → IsSound (replace_body e n (with_member m size (body_at e n)))) (sym same)
    (λ ok. stated_sound d n m size ok none c.is_behind.ensures.place_fits c.is_behind.ensures.size_fits inside own)

pub returns-clause-ok : goal.returns-clause-ok
returns-clause-ok c =
    let d = c.args.self.now.draft in
    let n = c.args.n.0 in
    let m = member_of c.args.member in
    let size = c.args.size in
    let none = ap (λ (name : List ℕ). against_name d n name m.tnum) (sym c.as_slice.ensures) ∙ c.in_ok-i.ensures.ok in
    let shallow = sym c.in_ok-is_deep.ensures.deep ∙ c.if-branch.false in
    let same = ap (λ o. o.draft) c.is_deep.ensures.same in
    let inside : list_any (begins_behind size) (present_members d n) ≡ false = ap (λ (e : Draft). list_any (begins_behind size) (present_members e n)) (sym same) ∙ sym c.leaves_behind.ensures ∙ c.if-leaves_behind.false in
    let own : begins_behind size m ≡ false = sym c.is_behind.ensures.behind ∙ c.if-is_behind.false in
    on_ok_weaker c.put_member.result
    (λ is. stated_accepted d n m size none shallow c.is_behind.ensures.place_fits c.is_behind.ensures.size_fits inside own
    ∙ ap (λ (e : Draft). let r : Result Draft Fault = Ok e in r) (sym (is ∙ ap (λ (e : Draft). replace_body e n (with_member m size (body_at e n))) same)))
    c.put_member.ensures.ok
