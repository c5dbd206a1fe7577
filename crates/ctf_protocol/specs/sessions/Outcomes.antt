-- The outcome of a request: its answer and the library afterwards; and the ways to refuse. Source:
-- ours. Needs State, Charges and Answers.
use Rattle.std.specs.Prelude.{ℕ, Bool, Option, None, Some, Result, Ok, Err, nat_lt, if◌then◌else◌}
use Rattle.ctf_protocol.specs.answers.Answers.{Answer, Reply}
use Rattle.ctf_protocol.specs.sessions.Charges.{charge}
use Rattle.ctf_protocol.specs.sessions.State.{State}
use Rattle.ctf_model.specs.rules.Refusals.{placeless}
use Rattle.ctf_model.specs.declared.faults.Fault.{Fault}
use Rattle.ctf_model.specs.declared.faults.TheConstants.Fault.{QUOTA_FULL}

-- the reply, not yet addressed to its session, and the library afterwards
pub record Outcome : Type 0 where
  pub reply : Reply
  pub state : State

abbrev pub outcome_of : Result Answer Fault → State → Outcome
outcome_of said state = record { reply = record { session = 0; outcome = said }; state = state }

abbrev pub grants : Answer → State → Outcome
grants answer state = outcome_of (Ok answer) state

-- a refusal leaves the library as it was
abbrev pub refuses : ℕ → State → Outcome
refuses code state = outcome_of (Err (placeless code)) state

-- ---- building blocks: a refusal, or else the rest of the step

-- refuses with a code unless the condition holds
abbrev pub needs : Bool → ℕ → State → Outcome → Outcome
needs holds code state later = if holds then later else refuses code state

-- refuses with a code if the condition holds
abbrev pub refused_where : Bool → ℕ → State → Outcome → Outcome
refused_where holds code state later = if holds then refuses code state else later

-- refuses with this fault, if there is one
abbrev pub refused_by : Option Fault → State → Outcome → Outcome
refused_by None state later = later
refused_by (Some fault) state later = outcome_of (Err fault) state

-- refuses with a code if the value is missing
abbrev pub finding : {A : Type 0} → ℕ → Option A → State → (A → Outcome) → Outcome
finding code None state later = refuses code state
finding code (Some x) state later = later x

-- refuses with the fault, if there is no value
abbrev pub making : {A : Type 0} → Result A Fault → State → (A → Outcome) → Outcome
making (Ok x) state later = later x
making (Err fault) state later = outcome_of (Err fault) state

-- ---- the quota, the last check of requests that may enlarge a library

-- the greatest allowed charge of a library, in bytes
abbrev pub quota : ℕ
quota = 268435456

-- refuses a step that would exceed the quota
abbrev pub within_quota : Outcome → State → Outcome
within_quota outcome state =
    if nat_lt quota (charge outcome.state) then refuses QUOTA_FULL state else outcome
