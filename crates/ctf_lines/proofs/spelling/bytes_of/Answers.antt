use Rattle.std.proofs.Common.{Some, sym, ap, ◌∙◌}
use Rattle.ctf_lines.proofs.Plain.{plain_spelled}
use Rattle.ctf_lines.proofs.spelling.bytes_of.Goals as goal

pub returns-then-are_plain : goal.returns-then-are_plain
returns-then-are_plain c =
    ap Some c.in_ok-from_slice.ensures.items ∙ sym (plain_spelled c.args.text.now (c.are_plain.ensures c.if-are_plain.true))
