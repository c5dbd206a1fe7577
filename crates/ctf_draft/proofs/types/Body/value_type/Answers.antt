use Rattle.ctf_draft.proofs.ValueTypes.{member_type}
use Rattle.ctf_draft.proofs.types.Body.value_type.Goals as goal

pub returns-in-Aggregate : goal.returns-in-Aggregate
returns-in-Aggregate c = let inside = rw c.in-Aggregate.is at c.requires in rw c.in-Aggregate.is (member_type c.in-Aggregate.field-0 c.in-Aggregate.field-1 c.in-Aggregate.members.items c.args.k c.index.result.now inside c.index.ensures)
