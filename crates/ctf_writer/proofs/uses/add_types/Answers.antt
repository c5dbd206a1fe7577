use Rattle.ctf_writer.specs.DraftContentView.{uses}
use Rattle.ctf_writer.specs.UsedView.{used_names}
use Rattle.ctf_writer.proofs.Growing.{names_more_at}
use Rattle.ctf_writer.proofs.uses.add_types.Goals as goal

pub loop-t-preserved : goal.loop-t-preserved
loop-t-preserved c = names_more_at uses (used_names c.args.used.now) (used_names c.loop-t.used) c.args.types.now c.loop-t.t-index c.t-item.result c.loop-t-test.true c.t-item.is c.loop-t.invariant (used_names c.add_type.new.used) c.in_ok-add_type.ensures
