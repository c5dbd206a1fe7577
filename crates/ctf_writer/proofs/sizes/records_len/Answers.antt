use Rattle.ctf_writer.specs.DraftContentView.{written_type}
use Rattle.ctf_writer.proofs.Lengths.{too_long_at}
use Rattle.ctf_writer.proofs.sizes.records_len.Goals as goal

pub returns-then-len-gt-LONGEST : goal.returns-then-len-gt-LONGEST
returns-then-len-gt-LONGEST c = λ names. too_long_at (written_type names) c.args.types.now c.loop-t.t-index c.t-item.result c.loop-t.len c.record_len-len.result c.loop-t-test.true c.t-item.is (c.loop-t.invariant.exact names) (c.record_len-len.ensures.exact names) c.if-len-gt-LONGEST.true
