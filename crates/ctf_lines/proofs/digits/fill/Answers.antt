use Rattle.std.proofs.Common.{◌+◌, refl, arith}
use Rattle.std.proofs.lemmas.Grind.{common_steps}
use Rattle.hex.proofs.Pairs.{decode_done}
use Rattle.ctf_lines.proofs.HexDigits.{at_end, none_yet, one_more, to_hex}
use Rattle.ctf_lines.proofs.digits.fill.Goals as goal

pub wide-init : goal.wide-init
wide-init c = record { decoded = none_yet c.args.digits.now c.args.bytes.now; len = c.requires; within = omega arith }

pub rest-preserved : goal.rest-preserved
rest-preserved c =
    let len = c.rest.invariant.len in
    record {
      decoded = one_more c.args.digits.now c.rest.bytes c.rest.last (c.rest.last + 1) _ _ _ c.rest.all c.pair-byte.result.1 refl len (omega (arith, len)) refl refl c.rest.invariant.decoded c.pair-byte.ensures;
      len = grind (arith, common_steps, len);
    }

pub returns : goal.returns
returns c =
    let len = c.rest.invariant.len in
    at_end _ c.rest.all c.rest.invariant.decoded
    (λ so_far. decode_done c.args.digits.now c.rest.bytes c.rest.last (omega (arith, len)) (omega (arith, len)) (to_hex c.args.digits.now c.rest.bytes c.rest.last so_far))
