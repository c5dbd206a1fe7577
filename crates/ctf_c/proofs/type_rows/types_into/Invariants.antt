use Rattle.std.proofs.Common.{Some}
use Rattle.ctf_c.proofs.names.Filled.{IsFilled}
use Rattle.ctf_c.specs.TypeRows.{TellsType, own_numbers}
use Rattle.ctf_model.specs.opened.Open.{own_in}
use Rattle.ctf_c.proofs.type_rows.types_into.Given as goal

abbrev pub invariant-loop-i : goal.invariant-loop-i
invariant-loop-i l = IsFilled (TellsType (Some l.dictionary)) (own_numbers (own_in l.dictionary)) l.from l.fn.rows l.rows l.i
