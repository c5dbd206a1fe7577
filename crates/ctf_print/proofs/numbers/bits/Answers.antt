use Rattle.std.proofs.Common.{◌≡◌, ◌+◌, ◌*◌, ◌^◌, ◌/◌, ◌%◌, ◌≤◌, length, ap, ◌∙◌, arith}
use Rattle.std.proofs.lemmas.List.{length-drop}
use Rattle.ctf_sections.proofs.Numbers.{number_tail, tail_all}
use Rattle.ctf_print.proofs.Bits.{bits_are}
use Rattle.ctf_print.proofs.Signs.{below_all}
use Rattle.ctf_print.proofs.numbers.bits.Goals as goal

pub returns-clause-value : goal.returns-clause-value
returns-clause-value c =
    let all = below_all c.args.width c.requires.short in
    let mask : (1 * 2 ^ c.args.width) % 340282366920938463463374607431768211456 ≡ 2 ^ c.args.width = omega (arith, all) in
    let from = c.args.at / 8 in
    let same = c.read_uint128-number.ensures ∙ number_tail c.min.result c.args.memory.now from in
    let len = ap length (tail_all c.args.memory.now from) ∙ length-drop from c.args.memory.now in
    let few : c.args.at % 8 + c.args.width ≤ 8 * c.min.result = omega (arith, c.min.ensures, len, c.requires.inside, c.requires.short) in
    rw (mask, same) (bits_are c.args.memory.now c.args.at c.args.width c.min.result (λ k. omega (arith, c.type_inv.memory k)) few)
