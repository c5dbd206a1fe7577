use Rattle.ctf_lines.proofs.HexDigits.{pair_known}
use Rattle.ctf_lines.proofs.digits.pair.Goals as goal

pub returns : goal.returns
returns c = pair_known c.args.high c.args.low c.number.result c.number-2.result c.is_digit.result c.is_digit-2.result c.is_digit.ensures c.is_digit-2.ensures c.number.ensures.value c.number-2.ensures.value
