use Rattle.std.proofs.Common.{arith}
use Rattle.ctf_answers.specs.Counts.{counts_view}
use Rattle.ctf_lines.proofs.Passes.{passed}
use Rattle.ctf_lines.proofs.Short.{counts_line_short}
use Rattle.ctf_lines.proofs.writing.write_counts.Goals as goal

pub returns-then-capacity-len-ge-SHORT_LINE-clause-written : goal.returns-then-capacity-len-ge-SHORT_LINE-clause-written
returns-then-capacity-len-ge-SHORT_LINE-clause-written c =
    let short = counts_line_short c.args.session c.args.counts c.ranges.session.fits in
    passed c.args.out.now c.put_counts.new.out c.args.session (counts_view c.args.counts) c.put_counts.ensures (omega (arith, short))
