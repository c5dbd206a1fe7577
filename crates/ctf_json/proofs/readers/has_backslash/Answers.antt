use Rattle.std.proofs.Common.{◌-◌, length, arith}
use Rattle.ctf_json.proofs.InBlocks.{gone_on, last_told}
use Rattle.ctf_json.proofs.readers.has_backslash.Goals as goal

pub loop-i-preserved : goal.loop-i-preserved
loop-i-preserved c = (
  gone_on 92 c.args.text.now c.loop-i.i 16 c.loop-i.invariant.0 (omega (arith, c.backslashes_16-found.ensures)),
  omega (arith, c.loop-i.invariant.1),
  c.loop-i.invariant.2,
)

pub returns : goal.returns
returns c =
    last_told 92 c.args.text.now c.loop-i.i (length c.args.text.now - 16) 16 c.backslashes_16-found-2.result (omega (arith, c.loop-i.invariant.2)) (omega (arith, c.loop-i.invariant.1)) c.loop-i.invariant.0 c.backslashes_16-found-2.ensures
