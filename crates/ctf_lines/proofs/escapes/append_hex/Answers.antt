use Rattle.std.proofs.Common.{arith}
use Rattle.std.proofs.lemmas.List.Folds.{length-flat_map-take}
use Rattle.ctf_model.specs.dumps.Texts.{hex_of_byte}
use Rattle.ctf_lines.proofs.escapes.append_hex.Goals as goal

pub append_digits-requires : goal.append_digits-requires
append_digits-requires c =
    let room = length-flat_map-take hex_of_byte c.args.bytes.now c.loop-byte.byte-index 0 c.loop-byte-test.true in
    let len = c.loop-byte.invariant.len in
    let capacity = c.loop-byte.invariant.capacity in
    let all = c.requires in
    omega (arith, room, len, capacity, all)
