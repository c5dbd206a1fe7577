use Rattle.std.proofs.Common.{sym, ap, ◌∙◌, arith}
use Rattle.std.specs.Str.{bytes_eq}
use Rattle.ctf_draft.specs.declared.types.Member.{Member}
use Rattle.ctf_draft.proofs.Among.{any_at}
use Rattle.ctf_draft.proofs.bodies.any_member_has.Goals as goal

pub returns-then-eq : goal.returns-then-eq
returns-then-eq c =
    let equal = ap (bytes_eq c.args.name.now) (sym c.as_slice.ensures) ∙ sym c.eq.ensures ∙ c.if-eq.true in
    sym (any_at (λ (x : Member). x.name) (bytes_eq c.args.name.now) c.args.members.now c.args.place c.index-members-place.result (omega arith) c.index-members-place.is (ap (λ (x : Member). bytes_eq c.args.name.now x.name) c.index-members-place.is ∙ equal))

pub returns-then-eq-2 : goal.returns-then-eq-2
returns-then-eq-2 c =
    let equal = ap (bytes_eq c.args.name.now) (sym c.as_slice-in-loop-member.ensures) ∙ sym c.eq-in-loop-member.ensures ∙ c.if-eq-2.true in
    sym (any_at (λ (x : Member). x.name) (bytes_eq c.args.name.now) c.args.members.now c.loop-member.member-index c.member-item.result c.loop-member-test.true c.member-item.is equal)
