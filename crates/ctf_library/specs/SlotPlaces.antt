-- The index of the slot with a given number. Source: ours.
use Rattle.std.specs.Prelude.{ℕ, ◌+◌, ◌==◌, List, [], ◌∷◌, Option, None, Some, option_map, if◌then◌else◌}
use Rattle.ctf_protocol.specs.sessions.State.{Slot}

-- the index of the first slot with this number
abbrev pub place_of : ℕ → List Slot → Option ℕ
place_of number [] = None
place_of number (slot ∷ slots) =
    if slot.number == number then Some 0 else option_map (λ i. i + 1) (place_of number slots)
