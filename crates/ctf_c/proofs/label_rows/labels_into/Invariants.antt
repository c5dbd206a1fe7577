use Rattle.std.proofs.Common.{Some}
use Rattle.ctf_c.proofs.names.Filled.{IsFilled}
use Rattle.ctf_c.specs.ItemRows.{TellsLabel, own_lists_of}
use Rattle.ctf_model.specs.opened.Open.{own_in}
use Rattle.ctf_c.proofs.label_rows.labels_into.Given as goal

abbrev pub invariant-loop-i : goal.invariant-loop-i
invariant-loop-i l = IsFilled (TellsLabel (own_lists_of (Some l.dictionary))) (own_in l.dictionary).labels l.from l.fn.rows l.rows l.i
