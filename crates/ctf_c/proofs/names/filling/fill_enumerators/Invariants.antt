use Rattle.std.proofs.Common.{Some}
use Rattle.ctf_check.specs.CheckedView.{lists_of}
use Rattle.ctf_c.proofs.names.Filled.{IsFilled}
use Rattle.ctf_c.specs.names.Filling.{TellsEnumerator}
use Rattle.ctf_c.proofs.names.filling.fill_enumerators.Given as goal

abbrev pub invariant-loop-i : goal.invariant-loop-i
invariant-loop-i l = IsFilled (TellsEnumerator (Some (lists_of l.dictionary))) l.enumerators l.from l.fn.rows l.rows l.i
