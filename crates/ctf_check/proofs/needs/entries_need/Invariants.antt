use Rattle.std.proofs.Common.{◌≡◌, max}
use Rattle.ctf_check.specs.Needed.{entries_need}
use Rattle.ctf_check.proofs.needs.entries_need.Given as goal

abbrev pub invariant-loop-entry : goal.invariant-loop-entry
invariant-loop-entry l = max l.greatest (entries_need l.entry-iterator) ≡ entries_need l.fn.entries
