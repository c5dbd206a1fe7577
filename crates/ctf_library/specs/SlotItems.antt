-- What the list of a session's slots shows. Source: ours.
use Rattle.std.specs.Prelude.{ℕ, List}
use Rattle.ctf_library.specs.declared.slots.Slot.{Slot}

-- the slots, and how many of them there is room for
pub record SlotItems : Type 0 where
  pub items : List Slot
  pub capacity : ℕ
