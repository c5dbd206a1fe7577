-- What a slot shows.
use Rattle.ctf_protocol.specs.sessions.Opened.{slot_with}
use Rattle.ctf_protocol.specs.sessions.State as state
use Rattle.ctf_library.specs.declared.slots.Slot.{Slot}

abbrev pub slot_of : Slot → state.Slot
slot_of slot = slot_with slot.number slot.dictionary
