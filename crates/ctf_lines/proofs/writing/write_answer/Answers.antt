use Rattle.ctf_lines.proofs.Passes.{passed}
use Rattle.ctf_lines.proofs.writing.write_answer.Goals as goal

pub returns-then-write_short : goal.returns-then-write_short
returns-then-write_short c =
    let written = c.if-write_short.ensures in
    passed c.args.out.now c.write_short.new.out c.args.session c.args.answer.now written.0 written.1
