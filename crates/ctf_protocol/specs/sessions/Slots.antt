-- A session's slots: their limits, and look-up, addition and replacement. Source: ours. Needs State
-- and Outcomes.
use Rattle.std.specs.Prelude.{ℕ, ◌+◌, ◌==◌, ◌&&◌, Bool, List, [], ◌∷◌, ◌++◌, length, Option, None, Some, nat_lt, nat_le, codes, if◌then◌else◌}
use Rattle.ctf_protocol.specs.answers.Answers.{says}
use Rattle.ctf_protocol.specs.answers.Answers as answers
use Rattle.ctf_protocol.specs.sessions.Outcomes.{Outcome, finding, grants}
use Rattle.ctf_protocol.specs.sessions.State.{State, Slot}
use Rattle.ctf_model.specs.format.Dictionary.{said_by}
use Rattle.ctf_model.specs.spaces.Kept.{Kept}
use Rattle.ctf_model.specs.declared.faults.TheConstants.Fault.{NO_SLOT}

-- the most slots in use, and the last slot number
abbrev pub most_slots : ℕ
most_slots = 1023

abbrev pub last_number : ℕ
last_number = 4294967295

abbrev pub has_room : State → Bool
has_room state = nat_lt (length state.slots) most_slots && nat_le state.next last_number

-- adds a slot for a dictionary, with the next number
abbrev pub adds_slot : Kept → State → Outcome
adds_slot kept state =
    grants (says (codes "d") (answers.number state.next)
    ∷ says (codes "types") (answers.number (length (said_by kept.lists).terms)) ∷ [])
    (record state {
      slots = state.slots
          ++ record { number = state.next; kept = kept; parent = None; draft = None } ∷ [];
      next = state.next + 1;
    })

-- the slot with this number
abbrev pub slot_at : ℕ → List Slot → Option Slot
slot_at number [] = None
slot_at number (slot ∷ slots) = if slot.number == number then Some slot else slot_at number slots

-- refuses if there is no such slot
abbrev pub on_slot : ℕ → State → (Slot → Outcome) → Outcome
on_slot d state later = finding NO_SLOT (slot_at d state.slots) state later

-- the current dictionary of a slot, if one is named
abbrev pub over_slot : Option ℕ → State → (Option Kept → Outcome) → Outcome
over_slot None state later = later None
over_slot (Some p) state later = on_slot p state (λ slot. later (Some slot.kept))

-- without the slot of this number
abbrev pub slots_without : ℕ → List Slot → List Slot
slots_without number [] = []
slots_without number (slot ∷ slots) =
    if slot.number == number then slots else slot ∷ slots_without number slots

-- with this slot in place of the one with its number
abbrev pub slots_with : ℕ → Slot → List Slot → List Slot
slots_with number now [] = []
slots_with number now (slot ∷ slots) =
    if slot.number == number then now ∷ slots else slot ∷ slots_with number now slots

-- with the parent of slot `number` set to this dictionary
abbrev pub slots_with_parent : ℕ → Kept → List Slot → List Slot
slots_with_parent number parent [] = []
slots_with_parent number parent (slot ∷ slots) =
    if slot.number == number then record slot { parent = Some parent } ∷ slots
    else slot ∷ slots_with_parent number parent slots
