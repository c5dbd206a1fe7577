use Rattle.std.proofs.Common.{◌∙◌, refl}
use Rattle.ctf_sections.proofs.Texts.{text_is}
use Rattle.ctf_sections.proofs.Numbers.{tail_all}
use Rattle.ctf_sections.proofs.strings.text.Goals as goal

pub returns-in_err-len : goal.returns-in_err-len
returns-in_err-len c =
    let rest = c.in_ok-rest.ensures.lookup.0.2 ∙ tail_all c.args.table.now c.args.offset in
    let found = text_is c.in_ok-rest.rest.now c.memchr.result c.memchr.ensures in
    rw (c.from_residual-in_err-len.ensures, ← rest, found, c.in_err-len.was) refl

pub returns : goal.returns
returns c =
    let rest = c.in_ok-rest.ensures.lookup.0.2 ∙ tail_all c.args.table.now c.args.offset in
    let found = text_is c.in_ok-rest.rest.now c.memchr.result c.memchr.ensures in
    rw (← rest, found, c.in_ok-len.was) refl
