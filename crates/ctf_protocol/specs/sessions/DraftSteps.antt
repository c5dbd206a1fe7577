-- Drafts in slots: their creation and their steps, as those of the open dictionary there. Source:
-- libctf(3LIB), ctf_create, ctf_update, ctf_discard; the form of answers is ours.
use Rattle.std.specs.Prelude.{unwrap_or, ℕ, Option, Result, codes}
use Rattle.ctf_protocol.specs.sessions.Additions.{apply_addition, addition_answered}
use Rattle.ctf_protocol.specs.sessions.Creations.{Created}
use Rattle.ctf_protocol.specs.sessions.Opened.{SlotOutcome, open_of, slot_made, slot_stepped, under}
use Rattle.ctf_protocol.specs.sessions.State.{Slot}
use Rattle.ctf_model.specs.opened.Steps.{created, discard_step, step_update}
use Rattle.ctf_model.specs.spaces.Kept.{Kept, model_over}
use Rattle.ctf_model.specs.declared.data_model.DataModel.{DataModel}
use Rattle.ctf_model.specs.declared.faults.Fault.{Fault}
use Rattle.ctf_protocol.specs.declared.requests.DraftStep.{DraftStep}
use Rattle.ctf_protocol.specs.declared.requests.DraftStep.TheVariants.{Add, Update, Discard}

-- the stated data model, or the parent's if none is stated
abbrev pub model_made : Option Kept → Created → DataModel
model_made parent asked = unwrap_or asked.model (model_over parent)

-- a slot with a new draft, over the dictionary of a parent if there is one
unfoldable pub created_slot : ℕ → Option Kept → Created → Result Slot Fault
created_slot number parent asked =
    slot_made number (created parent asked.parname asked.parlabel (model_made parent asked))

-- a step of the draft in a slot; update and discard answer the number of types
unfoldable pub slot_step : DraftStep → Slot → SlotOutcome
slot_step (Add addition) slot =
    slot_stepped (addition_answered addition) slot (apply_addition addition (open_of slot))
slot_step Update slot = slot_stepped (under (codes "types")) slot (step_update (open_of slot))
slot_step Discard slot = slot_stepped (under (codes "types")) slot (discard_step (open_of slot))
