-- Drafts in slots. Source: ours.
use Rattle.std.specs.Prelude.{◌≡◌, ◌⊎◌, ◌+◌, ◌-◌, sum_by, ℕ, List, Option, None, Some, Result, Err}
use Rattle.ctf_answers.specs.Replies.{change_answer}
use Rattle.ctf_answers.specs.declared.counts.Counts.{Counts}
use Rattle.ctf_library.specs.Quotas.{step_beside}
use Rattle.ctf_protocol.specs.sessions.Charges.{slot_bytes}
use Rattle.ctf_protocol.specs.sessions.Slots.{slots_with}
use Rattle.ctf_protocol.specs.sessions.Opened.{SlotOutcome}
use Rattle.ctf_model.specs.rules.Refusals.{placeless, out_of_memory}
use Rattle.ctf_protocol.specs.sessions.State.{Slot}
use Rattle.ctf_protocol.specs.sessions.Slots.{slot_at}
use Rattle.ctf_model.specs.declared.faults.Fault.{Fault}
use Rattle.ctf_model.specs.declared.faults.TheConstants.Fault.{NO_SLOT}
use Rattle.ctf_protocol.specs.declared.requests.DraftStep.{DraftStep}

-- the slot made the step, or it ran out of memory and is unchanged
abbrev pub IsStepped : SlotOutcome → Result Counts Fault → Slot → Slot → Type 0
IsStepped outcome result old new =
    ((change_answer result ≡ outcome.said) × (new ≡ outcome.slot))
    ⊎ ((result ≡ Err out_of_memory) × (new ≡ old))

-- the step of one slot, with the charge of the other slots and of everything else
abbrev pub step_in : ℕ → DraftStep → Slot → List Slot → SlotOutcome
step_in others step slot slots =
    step_beside (others + (sum_by slot_bytes slots - slot_bytes slot)) step slot

-- the same for slot `number`, if it exists
abbrev pub HaveSteppedAt : ℕ → Option Slot → DraftStep → ℕ → Result Counts Fault → List Slot
    → List Slot → Type 0
HaveSteppedAt others None step number result old new =
    (result ≡ Err (placeless NO_SLOT)) × (new ≡ old)
HaveSteppedAt others (Some slot) step number result old new =
    ((change_answer result ≡ (step_in others step slot old).said)
    × (new ≡ slots_with number (step_in others step slot old).slot old))
    ⊎ ((result ≡ Err out_of_memory) × (new ≡ old))

-- the step of slot `number`, with `others` as the charge of everything but slots
abbrev pub HaveStepped : ℕ → DraftStep → ℕ → Result Counts Fault → List Slot → List Slot → Type 0
HaveStepped others step number result old new =
    HaveSteppedAt others (slot_at number old) step number result old new
