use Rattle.std.proofs.Common.{◌∙◌, ap, ◌+◌, ◌*◌}
use Rattle.ctf_model.specs.values.MemoryBits.{bits_at}
use Rattle.ctf_print.proofs.Digits.{byte_is}
use Rattle.ctf_print.proofs.numbers.byte_of.Goals as goal

pub returns : goal.returns
returns c = c.bits.ensures.value ∙ (ap (λ w. bits_at c.args.memory.now (c.args.at + 8 * c.args.index) w) c.min-left.ensures ∙ byte_is c.args.memory.now c.args.at c.args.width c.args.index c.requires.there)
