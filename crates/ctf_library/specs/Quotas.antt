-- Refusals for lack of room in the quota. Source: ours.
use Rattle.std.specs.Prelude.{◌≡◌, ◌<◌, ◌≤◌, ◌+◌, ◌++◌, ◌⊎◌, ℕ, Bool, false, List, length, Result, Ok, Err, nat_lt, if◌then◌else◌}
use Rattle.ctf_protocol.specs.answers.Answers.{Answer}
use Rattle.ctf_protocol.specs.sessions.DraftSteps.{slot_step}
use Rattle.ctf_protocol.specs.sessions.Opened.{SlotOutcome, slot_refused}
use Rattle.ctf_protocol.specs.sessions.State.{Slot}
use Rattle.ctf_protocol.specs.declared.requests.DraftStep.{DraftStep}
use Rattle.ctf_protocol.specs.declared.requests.DraftStep.TheVariants.{Add, Update, Discard}
use Rattle.ctf_model.specs.rules.Refusals.{placeless}
use Rattle.ctf_model.specs.declared.faults.Fault.{Fault}
use Rattle.ctf_model.specs.declared.faults.TheConstants.Fault.{QUOTA_FULL, STAGE_FULL}
use Rattle.ctf_protocol.specs.sessions.Charges.{slot_bytes}
use Rattle.ctf_protocol.specs.sessions.Outcomes.{quota}
use Rattle.ctf_protocol.specs.sessions.Steps.{longest_list, list_in, with_staged}
use Rattle.ctf_model.specs.format.Lists.{Lists}
use Rattle.ctf_protocol.specs.declared.requests.ListName.{ListName}

-- the list is too long, or exceeds the quota
abbrev pub IsFull : Bool → ℕ → Fault → Type 0
IsFull fits len f =
    ((f ≡ placeless STAGE_FULL) × (longest_list < len))
    ⊎ ((f ≡ placeless QUOTA_FULL) × (len ≤ longest_list) × (fits ≡ false))

-- a part was appended to a staged list, whose length is now `len`
pub record IsStaged (list : ListName) (piece : List ℕ) (old new : Lists) (len : ℕ) : Type 0 where
  pub lists : new ≡ with_staged list (list_in list old ++ piece) old
  pub long : len ≡ length (list_in list old ++ piece)

-- ---- drafts

-- the slot is not made, or exceeds the quota
abbrev pub IsUncreated : Result Slot Fault → ℕ → Fault → Type 0
IsUncreated (Ok slot) others f = (f ≡ placeless QUOTA_FULL) × (quota < others + slot_bytes slot)
IsUncreated (Err fault) others f = f ≡ fault

-- refuses a granted step that exceeds the quota
abbrev pub granted_within : Result Answer Fault → ℕ → SlotOutcome → Slot → SlotOutcome
granted_within (Ok answer) others outcome slot =
    if nat_lt quota (others + slot_bytes outcome.slot) then slot_refused (placeless QUOTA_FULL) slot
    else outcome
granted_within (Err fault) others outcome slot = outcome

abbrev pub within : ℕ → SlotOutcome → Slot → SlotOutcome
within others outcome slot = granted_within outcome.said others outcome slot

-- the step of a slot, with the charge of everything else; an update must stay within the quota
abbrev pub step_beside : ℕ → DraftStep → Slot → SlotOutcome
step_beside others (Add addition) slot = slot_step (Add addition) slot
step_beside others Update slot = within others (slot_step Update slot) slot
step_beside others Discard slot = slot_step Discard slot
