use Rattle.ctf_writer.proofs.Leading.{aggregate_step}
use Rattle.ctf_writer.proofs.chains.step.Goals as goal

pub returns-in-Aggregate-ByValue : goal.returns-in-Aggregate-ByValue
returns-in-Aggregate-ByValue c =
    let inside = rw (c.in-Aggregate-ByValue.is-0, c.in-Aggregate-ByValue.is-1) at c.requires in
    rw (c.in-Aggregate-ByValue.is-0, c.in-Aggregate-ByValue.is-1, c.index.ensures) (aggregate_step c.in-Aggregate-ByValue.field-0-0 c.in-Aggregate-ByValue.field-1-0 c.in-Aggregate-ByValue.members.items c.args.k c.index.result.now inside)
