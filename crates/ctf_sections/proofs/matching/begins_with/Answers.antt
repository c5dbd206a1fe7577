use Rattle.std.proofs.Common.{◌≡◌, refl, sym, ap, ◌∙◌, None, length, take, true}
use Rattle.std.specs.Prelude.{IsTrue}
use Rattle.memchr.specs.Find.{IsLastByte, is_byte}
use Rattle.ctf_sections.proofs.SameTexts.{unless_named, with_zero, without_zero}
use Rattle.ctf_sections.proofs.matching.begins_with.Goals as goal

pub returns-then-not-has_ends : goal.returns-then-not-has_ends
returns-then-not-has_ends c = unless_named c.args.bytes.now c.args.text.now _ c.if-not-has_ends.true c.has_ends.ensures.named

pub returns-in-Some : goal.returns-in-Some
returns-in-Some c =
    let inside = c.if-not-has_ends.ensures.inside refl in
    sym (with_zero c.args.bytes.now c.args.text.now c.in-Some.field-0 inside (rw (c.in-Some.is) at c.memrchr.ensures))

pub returns-in-None : goal.returns-in-None
returns-in-None c =
    let inside = c.if-not-has_ends.ensures.inside refl in
    let found : IsLastByte (is_byte 0) (take (length c.args.text.now) c.args.bytes.now) None = (rw (c.in-None.is) at c.memrchr.ensures) in
    c.eq.ensures ∙ sym (without_zero c.args.bytes.now c.args.text.now inside (c.if-not-has_ends.ensures.end refl) found)
