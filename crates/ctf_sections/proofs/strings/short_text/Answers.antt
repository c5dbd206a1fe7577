use Rattle.std.proofs.Common.{◌+◌, ◌∙◌, take, refl}
use Rattle.ctf_sections.proofs.Texts.{short_text_is}
use Rattle.ctf_sections.proofs.Numbers.{tail_all}
use Rattle.memchr.specs.Find.{IsFirstByte, is_byte}
use Rattle.ctf_sections.proofs.strings.short_text.Goals as goal

pub returns-in_err-len : goal.returns-in_err-len
returns-in_err-len c =
    let rest = c.in_ok-rest.ensures.lookup.0.2 ∙ tail_all c.args.table.now c.args.offset in
    let found : IsFirstByte (is_byte 0) (take (c.args.most + 1) c.in_ok-rest.rest.now) c.memchr.result = (rw c.front-front.ensures at c.memchr.ensures) in
    let short = short_text_is c.in_ok-rest.rest.now c.args.most c.memchr.result found in
    rw (c.from_residual-in_err-len.ensures, ← rest, short, c.in_err-len.was) refl

pub returns : goal.returns
returns c =
    let rest = c.in_ok-rest.ensures.lookup.0.2 ∙ tail_all c.args.table.now c.args.offset in
    let found : IsFirstByte (is_byte 0) (take (c.args.most + 1) c.in_ok-rest.rest.now) c.memchr.result = (rw c.front-front.ensures at c.memchr.ensures) in
    let short = short_text_is c.in_ok-rest.rest.now c.args.most c.memchr.result found in
    rw (← rest, c.front-front.ensures, short, c.in_ok-len.was) refl
