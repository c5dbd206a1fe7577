use Rattle.std.proofs.Common.{◌≡◌, ◌++◌, map}
use Rattle.std.specs.Prelude.{decimal}
use Rattle.ctf_model.specs.dumps.Texts.{after_commas}
use Rattle.ctf_dump.proofs.heads.put_more.Given as goal

abbrev pub invariant-loop-arg : goal.invariant-loop-arg
invariant-loop-arg l = l.line ++ after_commas (map decimal l.arg-iterator) ≡ l.fn.line ++ after_commas (map decimal l.fn.args)
