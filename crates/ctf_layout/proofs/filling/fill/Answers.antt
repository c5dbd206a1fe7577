use Rattle.std.proofs.Common.{arith, ◌∙◌}
use Rattle.std.proofs.lemmas.List.{length-map}
use Rattle.ctf_layout.specs.Kept.{extent_kept, table_kept}
use Rattle.ctf_layout.proofs.Filled.{all_left, none_left, knows_nothing}
use Rattle.ctf_layout.proofs.filling.fill.Goals as goal

pub loop-i-init : goal.loop-i-init
loop-i-init g c =
    let s = g.T.Types.space c.args.types.now in
    record {
      filled = λ j lt. absurd (omega arith);
      knows = knows_nothing s (table_kept c.args.table.now) c.requires.empty;
      steps = omega arith;
    }

pub returns-clause-steps : goal.returns-clause-steps
returns-clause-steps g c =
    let s = g.T.Types.space c.args.types.now in
    let none = none_left s.own.terms (table_kept c.loop-i.table) (λ j lt. c.loop-i.invariant.filled j (omega arith)) in
    let h = c.loop-i.invariant.steps in
    let all = all_left s.own.terms (table_kept c.args.table.now) (length-map c.args.table.now extent_kept ∙ c.requires.same) c.requires.empty in
    omega (arith, none, h, all)
