-- The answer to a question about a slot. Source: ours. Needs State, Slots and Questions.
use Rattle.std.specs.Prelude.{ℕ, Option, None, Some, Result, Ok, Err}
use Rattle.ctf_protocol.specs.answers.Answers.{Answer}
use Rattle.ctf_protocol.specs.answers.HeldAnswers.{held_answered}
use Rattle.ctf_protocol.specs.answers.Questions.{type_answered}
use Rattle.ctf_protocol.specs.answers.SlotAnswers.{whole_answered}
use Rattle.ctf_protocol.specs.sessions.Opened.{open_of}
use Rattle.ctf_protocol.specs.sessions.Slots.{slot_at}
use Rattle.ctf_protocol.specs.sessions.State.{State, Slot}
use Rattle.ctf_model.specs.opened.Open.{space_in}
use Rattle.ctf_model.specs.rules.Refusals.{placeless}
use Rattle.ctf_model.specs.spaces.Space.{Space}
use Rattle.ctf_model.specs.declared.faults.Fault.{Fault}
use Rattle.ctf_model.specs.declared.faults.TheConstants.Fault.{NO_SLOT}
use Rattle.ctf_protocol.specs.declared.questions.Question.{Question}
use Rattle.ctf_protocol.specs.declared.questions.Question.TheVariants.{OfType, OfSlot, OfHeld}

-- the space that a slot's questions see
abbrev pub slot_space : Slot → Space
slot_space slot = space_in (open_of slot)

-- the answer of a slot
abbrev pub slot_answered : Question → Slot → Result Answer Fault
slot_answered (OfType t question) slot = type_answered question (slot_space slot) t.0
slot_answered (OfSlot question) slot = whole_answered question (slot_space slot)
slot_answered (OfHeld question) slot = Ok (held_answered question (open_of slot))

abbrev pub answer_of_slot : Question → Option Slot → Result Answer Fault
answer_of_slot question None = Err (placeless NO_SLOT)
answer_of_slot question (Some slot) = slot_answered question slot

-- the answer to a question about slot `d`; refused if there is no such slot
abbrev pub answer_to : ℕ → Question → State → Result Answer Fault
answer_to d question state = answer_of_slot question (slot_at d state.slots)
