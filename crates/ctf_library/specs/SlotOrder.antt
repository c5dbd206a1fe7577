-- Slots are ordered by their numbers. Source: ours.
use Rattle.std.specs.Prelude.{ℕ, ◌+◌, ◌&&◌, nat_le, nat_lt, Bool, true, List, [], ◌∷◌}
use Rattle.ctf_library.specs.declared.slots.Slot.{Slot}

-- the numbers ascend, from `low` to below `high`
abbrev pub rise_between : ℕ → List Slot → ℕ → Bool
rise_between low [] high = true
rise_between low (slot ∷ slots) high =
    nat_le low slot.number && nat_lt slot.number high && rise_between (slot.number + 1) slots high
