use Rattle.std.proofs.Common.{arith, length, ◌≡◌, sym, ap, ◌∙◌}
use Rattle.std.proofs.lemmas.Bool.Decides.{nat_tests}
use Rattle.std.proofs.Math.Seq.{take-length}
use Rattle.std.specs.Prelude.{slice_index}
use Rattle.ctf_protocol.specs.lines.Lines.{whole_lines}
use Rattle.ctf_wire.proofs.Cutting.{whole_lines-before, bytes-about}
use Rattle.ctf_wire.proofs.pieces.cut.Goals as goal

pub returns-in_default : goal.returns-in_default
returns-in_default c =
    let bs = c.args.bytes.now in
    ap whole_lines (sym (take-length bs)) ∙ whole_lines-before bs (length bs) c.in_default.ensures

pub returns : goal.returns
returns c =
    let bs = c.args.bytes.now in
    let found = c.in-Some.ensures in
    let is : slice_index bs c.in-Some.end ≡ 10 = let test = found.1 in grind (arith, nat_tests, test) in
    (whole_lines-before bs c.in-Some.end found.0.before, bytes-about bs c.in-Some.end found.0.high is)
