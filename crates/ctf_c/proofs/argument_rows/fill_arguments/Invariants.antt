use Rattle.std.proofs.Common.{take}
use Rattle.ctf_c.proofs.names.Filled.{IsFilled}
use Rattle.ctf_c.specs.ItemRows.{IsArgument}
use Rattle.ctf_c.proofs.argument_rows.fill_arguments.Given as goal

abbrev pub invariant-loop-i : goal.invariant-loop-i
invariant-loop-i l = IsFilled IsArgument (take l.all l.args) l.from l.fn.rows l.rows l.i
