use Rattle.std.proofs.Common.{inl}
use Rattle.ctf_model.specs.format.OwnedLists.{lists_owned}
use Rattle.ctf_open.proofs.Late.{none_before}
use Rattle.ctf_open.proofs.loading.Loaded.build.Goals as goal

pub returns-in-Err-clause-late : goal.returns-in-Err-clause-late
returns-in-Err-clause-late c = inl (none_before (lists_owned c.args.parts) c.in_ok-dictionary.ensures.exact_ok)
