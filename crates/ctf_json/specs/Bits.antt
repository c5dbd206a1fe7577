-- Byte classes of a text as bit masks. Source: ours.
use Rattle.std.specs.Prelude.{ℕ, List, map, ◌==◌}
use Rattle.std.specs.Simd.Lanes.{mask_l}

abbrev pub bits_of : ℕ → List ℕ → ℕ
bits_of byte text = mask_l (map (λ x. x == byte) text)
