-- The places of names by their last two bytes. Source: ours.
use Rattle.std.specs.Prelude.{ℕ, ◌+◌, ◌-◌, ◌*◌, ◌%◌, Bool, false, List, length, nat_lt, slice_index, slice_index_or, if◌then◌else◌}

unfoldable pub place_of : List ℕ → ℕ
place_of name =
    if nat_lt (length name) 2 then 0
    else slice_index name (length name - 1) % 64 * 64 + slice_index name (length name - 2) % 64

abbrev pub is_marked : List Bool → List ℕ → Bool
is_marked marks name = slice_index_or marks (place_of name) false
