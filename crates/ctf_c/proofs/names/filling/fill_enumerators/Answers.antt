use Rattle.std.proofs.Common.{◌-◌, Some, ap, ◌∙◌, arith}
use Rattle.ctf_check.specs.CheckedView.{lists_of}
use Rattle.ctf_c.proofs.names.Filled.{all_filled, filled, unfilled}
use Rattle.ctf_c.specs.names.Filling.{TellsEnumerator}
use Rattle.ctf_c.proofs.names.filling.fill_enumerators.Goals as goal

pub loop-i-init : goal.loop-i-init
loop-i-init c = unfilled (TellsEnumerator (Some (lists_of c.args.dictionary.now))) c.args.enumerators.now c.args.from c.args.rows.now

pub loop-i-preserved : goal.loop-i-preserved
loop-i-preserved c = filled (TellsEnumerator (Some (lists_of c.args.dictionary.now))) c.args.enumerators.now c.args.from c.args.rows.now c.loop-i.rows c.loop-i.i c.enumerator_row.result c.loop-i.invariant (omega (arith, c.loop-i-test.true, c.loop-i.auto.rows, c.min-count.ensures)) (omega (arith, c.loop-i-test.true, c.min-count.ensures, c.saturating_sub-left.ensures, c.len.ensures.value)) c.enumerator_row.ensures

pub returns : goal.returns
returns c = all_filled (TellsEnumerator (Some (lists_of c.args.dictionary.now))) c.args.enumerators.now c.args.from c.args.rows.now c.loop-i.rows c.loop-i.i c.saturating_sub-left.result c.min-count.result c.loop-i.invariant c.loop-i-test.false (c.saturating_sub-left.ensures ∙ ap (λ n. n - c.args.from) c.len.ensures.value) c.min-count.ensures
