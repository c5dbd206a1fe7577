use Rattle.std.proofs.Common.{ℕ, List, sym, subst}
use Rattle.ctf_lines.proofs.Decimals.{two_digits}
use Rattle.ctf_lines.specs.Appending.{HasRoom}
use Rattle.ctf_lines.proofs.appending.with_two_digits.Goals as goal

pub append_bytes-requires : goal.append_bytes-requires
append_bytes-requires c =
    let digits = two_digits c.args.number c.digit.result c.digit-2.result c.requires.number.0 c.requires.number.1 c.digit.ensures c.digit-2.ensures in
    subst (λ (t : List ℕ). HasRoom c.args.out t) (sym digits) c.requires.room

pub returns : goal.returns
returns c =
    let digits = two_digits c.args.number c.digit.result c.digit-2.result c.requires.number.0 c.requires.number.1 c.digit.ensures c.digit-2.ensures in
    rw (sym digits) c.append_bytes.ensures
