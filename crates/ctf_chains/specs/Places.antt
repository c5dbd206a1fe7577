-- Records that refer to each other, by index. Source: ours.
use Rattle.std.specs.Prelude.{ℕ, ◌+◌, ◌-◌, ◌^◌, min, List, [], ◌∷◌, length, map, Option, slice_index_or}
use Rattle.std.specs.List.{filter_map}

-- for each record its places: the record that each leads to, or none
abbrev pub Places : Type 0
Places = List (List (Option ℕ))

-- the places of one record
abbrev pub places_at : Places → ℕ → List (Option ℕ)
places_at all i = slice_index_or all i []

-- the records that these places lead to
abbrev pub led_to : List (Option ℕ) → List ℕ
led_to places = filter_map (λ place. place) places

-- for each record, the records that it leads to
abbrev pub steps_between : Places → List (List ℕ)
steps_between all = map led_to all

-- the work for a record: 1 to visit it, and 1 for each of its places
abbrev pub record_work : List (Option ℕ) → ℕ
record_work places = 1 + length places

-- the work for all records
abbrev pub full_work : Places → ℕ
full_work [] = 0
full_work (places ∷ all) = record_work places + full_work all

-- a count, saturating at 2^64 - 1
abbrev pub cap : ℕ → ℕ
cap n = min n (2 ^ 64 - 1)
