-- A slot is an open dictionary with a number: steps of one are steps of the other. Source: ours.
use Rattle.std.specs.Prelude.{ℕ, List, [], ◌∷◌, Result, Ok, Err}
use Rattle.ctf_model.specs.opened.Open.{Open}
use Rattle.ctf_model.specs.opened.Steps.{Stepped}
use Rattle.ctf_model.specs.declared.faults.Fault.{Fault}
use Rattle.ctf_protocol.specs.answers.Answers.{Answer, number, says}
use Rattle.ctf_protocol.specs.sessions.State.{Slot}

abbrev pub slot_with : ℕ → Open → Slot
slot_with n o = record { number = n; kept = o.own; parent = o.parent; draft = o.draft }

abbrev pub open_of : Slot → Open
open_of slot = record { own = slot.kept; parent = slot.parent; draft = slot.draft }

-- the open dictionary as slot `n`
abbrev pub slot_made : ℕ → Result Open Fault → Result Slot Fault
slot_made n (Ok o) = Ok (slot_with n o)
slot_made n (Err fault) = Err fault

-- the answer, and the slot afterwards
pub record SlotOutcome : Type 0 where
  pub said : Result Answer Fault
  pub slot : Slot

abbrev pub slot_granted : Answer → Slot → SlotOutcome
slot_granted answer slot = record { said = Ok answer; slot = slot }

-- a refusal leaves the slot as it was
abbrev pub slot_refused : Fault → Slot → SlotOutcome
slot_refused fault slot = record { said = Err fault; slot = slot }

-- a step of the open dictionary in a slot, with the answer for the number that it gives
abbrev pub slot_stepped : (ℕ → Answer) → Slot → Result Stepped Fault → SlotOutcome
slot_stepped say slot (Ok step) =
    slot_granted (say step.answer) (slot_with slot.number step.served)
slot_stepped say slot (Err fault) = slot_refused fault slot

-- the answer with a number under this key
abbrev pub under : List ℕ → ℕ → Answer
under key n = says key (number n) ∷ []

-- the empty answer
abbrev pub unsaid : ℕ → Answer
unsaid n = []
