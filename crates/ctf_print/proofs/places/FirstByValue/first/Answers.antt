use Rattle.std.proofs.Common.{◌∙◌, w64}
use Rattle.std.proofs.Math.Facts.{to_z-of_z}
use Rattle.ctf_print.specs.Placing.{AreFirstByValue}
use Rattle.ctf_print.proofs.places.FirstByValue.first.Goals as goal

pub returns : goal.returns
unfolding AreFirstByValue
returns c =
    let same = to_z-of_z {w = w64} {z = c.args.value} c.ranges.value in
    λ es are. c.copied.ensures ∙ (rw same at c.get.ensures.value) ∙ are c.args.value
