use Rattle.std.proofs.Common.{sym, ◌∙◌}
use Rattle.ctf_check.proofs.EntryStages.{at_bad, at_good, at_mistold, past_function, past_object}
use Rattle.ctf_check.proofs.entries.judge_entries.Goals as goal

pub loop-x-preserved-then-is_object : goal.loop-x-preserved-then-is_object
loop-x-preserved-then-is_object c =
    past_object _ _ _ _ _ _ _ _ _ _ _ _ _ _ _ c.in-Some.ensures.steps (sym c.is_object.ensures ∙ c.if-is_object.true) c.type_in.ensures c.misses_object-misses.ensures c.or_here-missing.ensures c.behind_object-objects.ensures c.loop-x.invariant

pub returns-then-is_bad_entry-clause-err : goal.returns-then-is_bad_entry-clause-err
returns-then-is_bad_entry-clause-err c =
    at_bad _ _ _ _ _ _ _ _ _ _ _ c.in-Some.ensures.steps (sym c.is_object.ensures ∙ c.if-is_object.false) (sym c.is_bad_entry.ensures ∙ c.if-is_bad_entry.true) c.loop-x.invariant

pub loop-x-preserved : goal.loop-x-preserved
loop-x-preserved c =
    past_function _ _ _ _ _ _ _ _ _ _ _ _ _ _ _ c.in-Some.ensures.steps (sym c.is_object.ensures ∙ c.if-is_object.false) (sym c.is_bad_entry.ensures ∙ c.if-is_bad_entry.false) c.signature_of.ensures c.misses_signature-misses.ensures c.or_here-missing-in-loop-x.ensures c.behind_function-functions.ensures c.loop-x.invariant

pub returns-in-Some-missing-clause-err : goal.returns-in-Some-missing-clause-err
returns-in-Some-missing-clause-err c = at_mistold _ _ _ _ _ _ _ _ _ _ c.in-None.ensures.steps.0 c.in-Some-missing.is c.loop-x.invariant

pub returns-in-None-missing-clause-ok : goal.returns-in-None-missing-clause-ok
returns-in-None-missing-clause-ok c = at_good _ _ _ _ _ _ _ _ _ c.in-None.ensures.steps.0 c.in-None-missing.is c.loop-x.invariant
