use Rattle.std.proofs.Common.{Some, None, inr, refl}
use Rattle.ctf_model.specs.format.Section.{records}
use Rattle.ctf_check.proofs.LongChains.{found_place}
use Rattle.ctf_check.proofs.judging.judge_chain.Goals as goal

pub returns-in-None-clause-ok : goal.returns-in-None-clause-ok
returns-in-None-clause-ok c = λ t all.
    found_place c.args.chain c.args.child t (records c.args.types.now) c.in_ok-first_deep_type.field-0 None c.in-None.is c.requires.whole c.in_ok-first_deep_type.ensures.least all

pub returns-in-Some-clause-err : goal.returns-in-Some-clause-err
returns-in-Some-clause-err c = inr (
  refl,
  λ t all.
      found_place c.args.chain c.args.child t (records c.args.types.now) c.in_ok-first_deep_type.field-0 (Some c.in-Some.i) c.in-Some.is c.requires.whole c.in_ok-first_deep_type.ensures.least all,
)
