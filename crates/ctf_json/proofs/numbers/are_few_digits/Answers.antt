use Rattle.std.proofs.lemmas.Int.Digits.{digits_more}
use Rattle.ctf_json.proofs.numbers.are_few_digits.Goals as goal

pub loop-byte-preserved : goal.loop-byte-preserved
loop-byte-preserved c = digits_more 10 c.args.bytes.now c.loop-byte.byte-index c.loop-byte-test.true c.loop-byte.invariant c.in-Some.ensures.0
