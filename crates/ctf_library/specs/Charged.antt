-- The charges of slots and publications. Source: ours.
use Rattle.std.specs.Prelude.{◌≡◌, ◌+◌, ◌<◌, ◌^◌, ℕ, List, map, sum_by}
use Rattle.ctf_model.specs.format.Lists.{Lists}
use Rattle.ctf_library.specs.SlotView.{slot_of}
use Rattle.ctf_library.specs.declared.slots.Slot.{Slot}
use Rattle.ctf_protocol.specs.sessions.Charges.{publication_bytes, slot_bytes}
use Rattle.ctf_protocol.specs.sessions.State.{Publication}
use Rattle.ctf_model.specs.opened.Sizes.{lists_bytes}

abbrev pub bytes_in : List Slot → ℕ
bytes_in slots = sum_by slot_bytes (map slot_of slots)

abbrev pub bytes_published : List Publication → ℕ
bytes_published published = sum_by publication_bytes published

-- the stored sum of the slots' bytes is correct, and the whole charge is below 2^128
pub record IsCounted (held : List Slot) (out : List Publication) (stage : Lists) (in_slots : ℕ)
    : Type 0 where
  pub slots : in_slots ≡ bytes_in held
  pub small : lists_bytes stage + (in_slots + bytes_published out) < 2 ^ 128
