use Rattle.std.proofs.Common.{◌∙◌, sym, w64}
use Rattle.std.proofs.Math.Facts.{to_z-of_z}
use Rattle.ctf_print.proofs.Placings.{found_here, found_later, found_nowhere}
use Rattle.ctf_print.proofs.places.first_of.Goals as goal

pub returns-then-has_value : goal.returns-then-has_value
returns-then-has_value c =
    let same = to_z-of_z {w = w64} {z = c.args.value} c.ranges.value in
    sym ((rw same at c.loop-i.invariant) ∙ found_here c.args.enumerators.now c.args.value c.loop-i.i (rw (same, c.if-has_value.true) at c.has_value.ensures))

pub loop-i-preserved : goal.loop-i-preserved
loop-i-preserved c =
    let same = to_z-of_z {w = w64} {z = c.args.value} c.ranges.value in
    rw same ((rw same at c.loop-i.invariant) ∙ found_later c.args.enumerators.now c.args.value c.loop-i.i (rw (same, c.if-has_value.false) at c.has_value.ensures))

pub returns : goal.returns
returns c =
    let same = to_z-of_z {w = w64} {z = c.args.value} c.ranges.value in
    sym ((rw same at c.loop-i.invariant) ∙ found_nowhere c.args.enumerators.now c.args.value c.loop-i.i (rw c.len-i-end.ensures.value at c.loop-i-test.false))
