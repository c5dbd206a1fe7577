use Rattle.std.proofs.Common.{None, ◌∙◌, sym, inr}
use Rattle.std.proofs.lemmas.Result.{on_ok_weaker, IfErr-weaker}
use Rattle.ctf_model.specs.format.Section.{records}
use Rattle.ctf_check.proofs.TypeStages.{at_reference, past_references, or_memory}
use Rattle.ctf_check.proofs.judge.judge_types.Goals as goal

pub returns-in-Some-clause-err : goal.returns-in-Some-clause-err
returns-in-Some-clause-err c = inr (at_reference c.args.numbers.child c.args.numbers.count (records c.args.types.now) c.in-Some.place (sym c.in-Some.is ∙ c.bad_reference.ensures) c.requires.count c.requires.whole)

pub returns-in-Some-clause-late : goal.returns-in-Some-clause-late
returns-in-Some-clause-late c = inr (at_reference c.args.numbers.child c.args.numbers.count (records c.args.types.now) c.in-Some.place (sym c.in-Some.is ∙ c.bad_reference.ensures) c.requires.count c.requires.whole)

pub returns-in-None-clause-ok : goal.returns-in-None-clause-ok
returns-in-None-clause-ok c =
    on_ok_weaker c.judge_chains.result
    (past_references c.args.numbers.child c.args.numbers.count (records c.args.types.now) None (sym c.in-None.is ∙ c.bad_reference.ensures) c.requires.count c.requires.whole)
    c.judge_chains.ensures.ok

pub returns-in-None-clause-err : goal.returns-in-None-clause-err
returns-in-None-clause-err c =
    IfErr-weaker c.judge_chains.result _ _
    (λ f. or_memory c.args.numbers.child c.args.numbers.count (records c.args.types.now) f (sym c.in-None.is ∙ c.bad_reference.ensures) c.requires.count c.requires.whole)
    c.judge_chains.ensures.err
