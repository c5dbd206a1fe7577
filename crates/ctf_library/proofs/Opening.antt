-- The effect of an open if there is a free slot.
use Rattle.std.proofs.Common.{◌≡◌, true, None, Some, Err, refl}
use Rattle.ctf_model.specs.rules.Faults.{first_fault}
use Rattle.ctf_model.specs.declared.faults.Fault.{Fault}
use Rattle.ctf_model.specs.declared.data_model.DataModel.{DataModel}
use Rattle.ctf_protocol.specs.sessions.State.{State, empty_stage}
use Rattle.ctf_protocol.specs.sessions.Outcomes.{outcome_of}
use Rattle.ctf_protocol.specs.sessions.Slots.{adds_slot, has_room}
use Rattle.ctf_protocol.specs.sessions.Steps.{opens}

pub opens_to : (model : DataModel) (state : State) → has_room state ≡ true → first_fault state.stage ≡ None → opens model state ≡ adds_slot (record { lists = state.stage; model = model }) (record state { stage = empty_stage })
opens_to model state room none = rw (room, none) refl

pub opens_broken : (model : DataModel) (state : State) (fault : Fault) → has_room state ≡ true → first_fault state.stage ≡ Some fault → opens model state ≡ outcome_of (Err fault) state
opens_broken model state fault room broken = rw (room, broken) refl
