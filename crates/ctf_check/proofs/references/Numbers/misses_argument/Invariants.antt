use Rattle.std.proofs.Common.{◌≡◌}
use Rattle.std.specs.List.{list_any}
use Rattle.ctf_model.specs.rules.References.{is_missing}
use Rattle.ctf_check.proofs.references.Numbers.misses_argument.Given as goal

abbrev pub invariant-loop-number : goal.invariant-loop-number
invariant-loop-number l = list_any (is_missing l.self.child l.self.count) l.number-iterator ≡ list_any (is_missing l.self.child l.self.count) l.fn.args
