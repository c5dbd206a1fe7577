-- If nothing is open, a step is refused.
use Rattle.std.proofs.Common.{◌≡◌, ℕ, List, Option, None, Result, refl, inr}
use Rattle.ctf_c.specs.Drafting.{Creates, Steps, StepsAt, created_under}
use Rattle.ctf_model.specs.opened.Steps.{Stepped}
use Rattle.ctf_c.specs.Given.{ask}
use Rattle.ctf_model.specs.opened.Open.{Open}
use Rattle.ctf_model.specs.declared.faults.Fault.{Fault}
use Rattle.ctf_model.specs.declared.faults.TheConstants.Fault.{NO_SLOT}
use Rattle.ctf_model.specs.rules.Refusals.{placeless}

pub no_step : (step : Open → Result Stepped Fault) (n : ℕ) (old new : Option Open) → old ≡ None → new ≡ None → Steps (ask old step) 50 n n old new
no_step step n old new e f = rw (e, f) (inr (placeless NO_SLOT, (inr refl, refl, refl, refl)))

pub no_step_at : (step : Open → Result Stepped Fault) (n before : ℕ) (old new : Option Open) → old ≡ None → new ≡ None → StepsAt (ask old step) 50 n n before 0 old new
no_step_at step n before old new e f = rw (e, f) (inr (placeless NO_SLOT, (inr refl, refl, refl, refl, refl)))

pub no_child : (was : ℕ) (parent old : Option Open) (parname parlabel : List ℕ) → parent ≡ None → Creates (created_under parent parname parlabel) 50 was 0 old old
no_child was parent old parname parlabel e = rw e (inr (placeless NO_SLOT, (inr refl, refl, refl, refl)))
