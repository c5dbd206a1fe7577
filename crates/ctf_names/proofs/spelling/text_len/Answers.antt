use Rattle.std.proofs.Common.{◌≡◌, ◌+◌, ◌<◌, length, arith}
use Rattle.std.specs.List.{flat_map}
use Rattle.ctf_names.specs.Marks.{text_before, right}
use Rattle.ctf_names.specs.Bases.{base_text}
use Rattle.ctf_names.proofs.MarkedText.{bare_length, with_length}
use Rattle.ctf_names.proofs.spelling.text_len.Goals as goal

pub returns-then-declarator-eq0 : goal.returns-then-declarator-eq0
returns-then-declarator-eq0 c =
    let none : length (flat_map text_before c.args.marks.now) + length (flat_map right c.args.marks.now) ≡ 0 = omega arith in
    let all = bare_length c.args.marks.now (base_text c.args.base) none in
    omega (arith, all)

pub returns-else-declarator-eq0 : goal.returns-else-declarator-eq0
returns-else-declarator-eq0 c =
    let some : 0 < length (flat_map text_before c.args.marks.now) + length (flat_map right c.args.marks.now) = omega arith in
    let all = with_length c.args.marks.now (base_text c.args.base) some in
    omega (arith, all)
