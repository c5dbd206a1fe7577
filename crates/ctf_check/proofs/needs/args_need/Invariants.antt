use Rattle.std.proofs.Common.{◌≡◌, max}
use Rattle.ctf_model.specs.rules.Needs.{greatest_in_parent}
use Rattle.ctf_check.proofs.needs.args_need.Given as goal

abbrev pub invariant-loop-number : goal.invariant-loop-number
invariant-loop-number l = max l.greatest (greatest_in_parent l.number-iterator) ≡ greatest_in_parent l.fn.args
