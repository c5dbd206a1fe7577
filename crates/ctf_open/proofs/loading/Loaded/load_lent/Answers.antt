use Rattle.std.proofs.Common.{inl}
use Rattle.ctf_check.specs.ListsView.{lists_in}
use Rattle.ctf_open.proofs.Late.{none_before}
use Rattle.ctf_open.proofs.loading.Loaded.load_lent.Goals as goal

pub returns-clause-late : goal.returns-clause-late
returns-clause-late c = inl (none_before (lists_in c.args.lists) c.in_ok-dictionary.ensures.exact_ok)
