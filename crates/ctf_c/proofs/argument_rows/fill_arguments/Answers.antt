use Rattle.std.proofs.Common.{◌-◌, ◌+◌, ◌<◌, ap, sym, take, ◌∙◌, arith}
use Rattle.ctf_c.proofs.ArgumentRows.{taken_length, taken_told}
use Rattle.ctf_c.proofs.names.Filled.{all_filled, filled, unfilled}
use Rattle.ctf_c.specs.ItemRows.{IsArgument}
use Rattle.ctf_c.proofs.argument_rows.fill_arguments.Goals as goal

pub loop-i-init : goal.loop-i-init
loop-i-init c = unfilled IsArgument (take c.args.all c.args.args.now) c.args.from c.args.rows.now

pub loop-i-preserved : goal.loop-i-preserved
loop-i-preserved c =
    let inside : c.args.from + c.loop-i.i < c.args.all = omega (arith, c.loop-i-test.true, c.min-count.ensures, c.saturating_sub-left.ensures) in
    let many = taken_length c.args.args.now c.args.all c.requires in
    filled IsArgument (take c.args.all c.args.args.now) c.args.from c.args.rows.now c.loop-i.rows c.loop-i.i c.argument_at.result c.loop-i.invariant (omega (arith, c.loop-i-test.true, c.loop-i.auto.rows, c.min-count.ensures)) (omega (arith, inside, many)) (taken_told c.args.args.now c.args.all (c.args.from + c.loop-i.i) c.argument_at.result c.requires inside c.argument_at.ensures)

pub returns : goal.returns
returns c = all_filled IsArgument (take c.args.all c.args.args.now) c.args.from c.args.rows.now c.loop-i.rows c.loop-i.i c.saturating_sub-left.result c.min-count.result c.loop-i.invariant c.loop-i-test.false (c.saturating_sub-left.ensures ∙ ap (λ n. n - c.args.from) (sym (taken_length c.args.args.now c.args.all c.requires))) c.min-count.ensures
