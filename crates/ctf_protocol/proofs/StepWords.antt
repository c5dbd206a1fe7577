-- The steps of requests, split where proofs go by cases: each is the rest of a step from one of its
-- lines on.
use Rattle.std.specs.Prelude.{ℕ, nat_lt, List, [], Option, Result, is_some}
use Rattle.ctf_model.specs.opened.Open.{pending_in}
use Rattle.ctf_model.specs.opened.Steps.{import_refusal}
use Rattle.ctf_model.specs.spaces.Kept.{Kept}
use Rattle.ctf_model.specs.declared.faults.Fault.{Fault}
use Rattle.ctf_model.specs.declared.faults.TheConstants.Fault.{NO_SLOT, SLOTS_FULL, NAME_TAKEN, NOT_PUBLISHED, NOT_UPDATED}
use Rattle.ctf_protocol.specs.sessions.Creations.{Created}
use Rattle.ctf_protocol.specs.sessions.DraftSteps.{created_slot}
use Rattle.ctf_protocol.specs.sessions.Opened.{open_of}
use Rattle.ctf_protocol.specs.sessions.Outcomes.{Outcome, finding, grants, making, needs, refused_by, refused_where, within_quota}
use Rattle.ctf_protocol.specs.sessions.Publications.{published_as}
use Rattle.ctf_protocol.specs.sessions.Slots.{adds_slot, has_room, over_slot, slots_with_parent}
use Rattle.ctf_protocol.specs.sessions.State.{Slot, State, empty_stage}
use Rattle.ctf_protocol.specs.sessions.Steps.{adds_draft, adds_publication}

-- a step on a slot, if it exists
abbrev pub with_slot : (Slot → Outcome) → Option Slot → State → Outcome
with_slot does slot state = finding NO_SLOT slot state does

abbrev pub opens_unless : Option Fault → Kept → State → Outcome
opens_unless fault kept state =
    refused_by fault state (adds_slot kept (record state { stage = empty_stage }))

abbrev pub accepts_unless : Option Fault → State → Outcome
accepts_unless fault state = refused_by fault state (grants [] state)

abbrev pub imports_unless : Option Fault → ℕ → Kept → State → Outcome
imports_unless fault d parent state =
    refused_by fault state
    (within_quota (grants [] (record state { slots = slots_with_parent d parent state.slots })) state)

abbrev pub imports_into : Slot → ℕ → Slot → State → Outcome
imports_into child d parent state =
    imports_unless (import_refusal (open_of child) (open_of parent)) d parent.kept state

abbrev pub publishes_within : List ℕ → Kept → State → Outcome
publishes_within name kept state =
    refused_where (is_some (published_as name state.published)) NAME_TAKEN state
    (within_quota (adds_publication name kept state) state)

abbrev pub publishes_slot : List ℕ → Slot → State → Outcome
publishes_slot name slot state =
    refused_where (nat_lt 0 (pending_in slot.draft)) NOT_UPDATED state
    (publishes_within name slot.kept state)

abbrev pub takes_found : Option Kept → State → Outcome
takes_found found state =
    finding NOT_PUBLISHED found state (λ kept. within_quota (adds_slot kept state) state)

abbrev pub adds_created : Result Slot Fault → State → Outcome
adds_created slot state = making slot state (λ s. adds_draft s state)

abbrev pub creates_over : Option Kept → Created → State → Outcome
creates_over parent asked state =
    needs (has_room state) SLOTS_FULL state
    (adds_created (created_slot state.next parent asked) state)

abbrev pub creates_from : Option ℕ → Created → State → Outcome
creates_from parent asked state = over_slot parent state (λ kept. creates_over kept asked state)
