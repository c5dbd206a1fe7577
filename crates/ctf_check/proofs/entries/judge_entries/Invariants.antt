use Rattle.ctf_check.proofs.EntryStages.{GoesOn}
use Rattle.ctf_check.proofs.entries.judge_entries.Given as goal

abbrev pub invariant-loop-x : goal.invariant-loop-x
invariant-loop-x l = GoesOn l.numbers.child l.numbers.count l.fn.symbols l.fn.objects l.fn.functions l.missing l.x-iterator l.objects l.functions
