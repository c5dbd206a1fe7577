use Rattle.std.proofs.Common.{inl}
use Rattle.ctf_check.specs.ListsView.{lists_in}
use Rattle.ctf_open.proofs.Late.{none_before}
use Rattle.ctf_open.proofs.open_dictionary.fault_uncopied.Goals as goal

pub returns-in_default-clause-late : goal.returns-in_default-clause-late
returns-in_default-clause-late c = inl (none_before (lists_in c.args.lists) c.in_default.ensures.exact_ok)
