use Rattle.std.proofs.Common.{◌≡◌, ◌+◌, ◌*◌, get_or, ap, ◌∙◌, arith}
use Rattle.std.proofs.lemmas.Grind.{common_steps}
use Rattle.ctf_lines.proofs.HexDigits.{one_more}
use Rattle.ctf_lines.proofs.digits.fill_block.Goals as goal

pub block-preserved : goal.block-preserved
block-preserved c =
    let digits = c.args.digits.now in
    let at = c.args.at in
    let k = c.block.k in
    let len = c.block.invariant.len in
    let high : 2 * at + 2 * k ≡ 2 * (at + k) = omega arith in
    let low : 2 * at + (2 * k + 1) ≡ 2 * (at + k) + 1 = omega arith in
    record {
      decoded = λ start. one_more digits c.block.bytes (at + k) (at + (k + 1)) (get_or c.firsts.result k 0) (get_or c.seconds.result k 0) _ c.block.all c.pair-byte.result.1 (omega arith) len (omega (arith, len, c.block.invariant.room))
          (c.firsts.ensures k c.block-test.true ∙ ap (λ n. get_or digits n 0) high) (c.seconds.ensures k c.block-test.true ∙ ap (λ n. get_or digits n 0) low) (c.block.invariant.decoded start) c.pair-byte.ensures;
      len = grind (arith, common_steps, len);
      room = grind (arith, common_steps, c.block.invariant.room);
    }
