use Rattle.std.proofs.Common.{inl}
use Rattle.ctf_model.specs.format.OwnedLists.{lists_owned}
use Rattle.ctf_open.proofs.Late.{none_before}
use Rattle.ctf_library.proofs.pool.Pool.open.Goals as goal

pub returns-in_default-share-clause-late : goal.returns-in_default-share-clause-late
returns-in_default-share-clause-late c = inl (none_before (lists_owned c.args.parts) c.in-Some.ensures.1)
