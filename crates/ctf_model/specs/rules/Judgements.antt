-- Ordered refusals: the first one whose condition holds is the refusal. Source: ours.
use Rattle.std.specs.Prelude.{ℕ, Bool, List, [], ◌∷◌, Option, Some, None, Result, Ok, Err, if◌then◌else◌}
use Rattle.ctf_model.specs.rules.Refusals.{placeless}
use Rattle.ctf_model.specs.declared.faults.Fault.{Fault}

-- a refusal's code, and whether its condition holds
pub record Row : Type 0 where
  pub code : ℕ
  pub met : Bool

-- the first refusal whose condition holds
abbrev pub first_met : List Row → Option Fault
first_met [] = None
first_met (row ∷ rows) = if row.met then Some (placeless row.code) else first_met rows

-- the result, unless there is a refusal
abbrev pub unless : {A : Type 0} → Option Fault → Result A Fault → Result A Fault
unless None done = done
unless (Some f) done = Err f

-- continues with a number, or fails with its fault
infixl 10 ◌then◌
abbrev pub ◌then◌ : {A : Type 0} → Result ℕ Fault → (ℕ → Result A Fault) → Result A Fault
(Err f) then next = Err f
(Ok n) then next = next n
