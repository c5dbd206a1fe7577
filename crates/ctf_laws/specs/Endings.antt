-- The end of a request, as relations between the answer or refusal and the library afterwards.
-- Source: ours.
use Rattle.std.specs.Prelude.{◌≡◌, ◌⊎◌, ◌<◌, ◌≤◌, ℕ, Bool, true, false, Option, None, Some, Result, Ok, Err}
use Rattle.ctf_model.specs.format.Laws.{KeepsEveryRule}
use Rattle.ctf_model.specs.format.Lists.{Lists}
use Rattle.ctf_model.specs.rules.Refusals.{placeless}
use Rattle.ctf_model.specs.rules.Rules.{IsFirstFault}
use Rattle.ctf_model.specs.declared.faults.Fault.{Fault}
use Rattle.ctf_model.specs.declared.faults.TheConstants.Fault.{QUOTA_FULL}
use Rattle.ctf_protocol.specs.answers.Answers.{Answer}
use Rattle.ctf_protocol.specs.sessions.Charges.{charge}
use Rattle.ctf_protocol.specs.sessions.Outcomes.{quota}
use Rattle.ctf_protocol.specs.sessions.State.{State}

-- relates the answer or refusal to the library afterwards
abbrev pub Ending : Type 1
Ending = Result Answer Fault → State → Type 0

-- refused with this fault, library unchanged
abbrev pub Refuses : Fault → State → Ending
Refuses fault old said new = (said ≡ Err fault) × (new ≡ old)

-- granted with this answer and this library
abbrev pub Grants : Answer → State → Ending
Grants answer would said new = (said ≡ Ok answer) × (new ≡ would)

-- granted if the library stays within the quota, else refused
abbrev pub GrantsWithin : State → Answer → State → Ending
GrantsWithin old answer would said new =
    ((charge would ≤ quota) × Grants answer would said new)
    ⊎ ((quota < charge would) × Refuses (placeless QUOTA_FULL) old said new)

-- refused with a code if the condition holds
abbrev pub RefusesWhere : Bool → ℕ → State → Ending → Ending
RefusesWhere true code old Else said new = Refuses (placeless code) old said new
RefusesWhere false code old Else said new = Else said new

-- refused with a code unless the condition holds
abbrev pub Needs : Bool → ℕ → State → Ending → Ending
Needs true code old Then said new = Then said new
Needs false code old Then said new = Refuses (placeless code) old said new

-- refused with a code if the value is missing
abbrev pub Finds : {A : Type 0} → Option A → ℕ → State → (A → Ending) → Ending
Finds None code old Then said new = Refuses (placeless code) old said new
Finds (Some x) code old Then said new = Then x said new

-- refused with this fault, if there is one
abbrev pub RefusesBy : Option Fault → State → Ending → Ending
RefusesBy None old Else said new = Else said new
RefusesBy (Some fault) old Else said new = Refuses fault old said new

-- refused with the fault, if there is no value
abbrev pub Gives : {A : Type 0} → Result A Fault → State → (A → Ending) → Ending
Gives (Ok x) old Then said new = Then x said new
Gives (Err fault) old Then said new = Refuses fault old said new

-- lists are refused for their least broken rule, at its least place, or break no rule
abbrev pub Judges : Lists → State → (Answer → State → Type 0) → Ending
Judges lists old Granted (Err f) new = IsFirstFault lists f × (new ≡ old)
Judges lists old Granted (Ok answer) new = KeepsEveryRule lists × Granted answer new
