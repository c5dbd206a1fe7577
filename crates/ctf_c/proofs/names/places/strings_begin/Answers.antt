use Rattle.std.proofs.Common.{length, ap, arith}
use Rattle.ctf_check.specs.CheckedView.{lists_of}
use Rattle.ctf_model.specs.format.Lists.{Lists}
use Rattle.ctf_c.proofs.names.Texts.{header_inside}
use Rattle.ctf_c.proofs.names.places.strings_begin.Goals as goal

pub u32_at-requires : goal.u32_at-requires
u32_at-requires c =
    let d = c.args.dictionary.now in
    let whole = header_inside (lists_of d) d.faultless in
    let same = ap (λ (s : Lists). length s.ctf) c.lists.ensures.same in
    omega (arith, whole, same)
