use Rattle.std.proofs.Common.{◌≡◌, refl, sym, ◌∙◌, None, length, take, true}
use Rattle.memchr.specs.Find.{IsLastByte, is_byte}
use Rattle.ctf_sections.proofs.SameTexts.{in_front, unless_named, with_zero, without_zero}
use Rattle.ctf_sections.proofs.matching.is_front_after.Goals as goal

pub returns-then-not-has_ends : goal.returns-then-not-has_ends
returns-then-not-has_ends c = unless_named c.args.bytes.now c.args.text.now _ c.if-not-has_ends.true c.has_ends.ensures.named

pub returns-then-not-may_be_same : goal.returns-then-not-may_be_same
returns-then-not-may_be_same c =
    unless_named c.args.bytes.now c.args.text.now _ c.if-not-may_be_same.true (λ named. c.may_be_same.ensures (in_front c.args.bytes.now c.args.text.now named))

pub returns-in-Some : goal.returns-in-Some
returns-in-Some c =
    let inside = c.if-not-has_ends.ensures.inside refl in
    sym (with_zero c.args.bytes.now c.args.text.now c.in-Some.zero inside (rw (c.in-Some.is) at c.memrchr.ensures))

pub returns-then-eq : goal.returns-then-eq
returns-then-eq c =
    let inside = c.if-not-has_ends.ensures.inside refl in
    let found : IsLastByte (is_byte 0) (take (length c.args.text.now) c.args.bytes.now) None = (rw (c.in_default.is) at c.memrchr.ensures) in
    sym c.if-eq.true ∙ c.eq.ensures ∙ sym (without_zero c.args.bytes.now c.args.text.now inside (c.if-not-has_ends.ensures.end refl) found)

pub returns : goal.returns
returns c =
    let inside = c.if-not-has_ends.ensures.inside refl in
    let found : IsLastByte (is_byte 0) (take (length c.args.text.now) c.args.bytes.now) None = (rw (c.in_default.is) at c.memrchr.ensures) in
    sym c.if-eq.false ∙ c.eq.ensures ∙ sym (without_zero c.args.bytes.now c.args.text.now inside (c.if-not-has_ends.ensures.end refl) found)
