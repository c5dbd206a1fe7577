-- A cache of recently opened dictionaries. Source: ours.
use Rattle.std.specs.Prelude.{◌≡◌, ◌⊎◌, ℕ, ◌+◌, ◌&&◌, Bool, true, false, List, [], ◌∷◌, ◌++◌, length, nat_le, nat_lt, sum_by, if◌then◌else◌}
use Rattle.ctf_model.specs.spaces.Kept.{Kept}
use Rattle.ctf_model.specs.opened.Sizes.{kept_bytes}

-- the most cached dictionaries, and their most bytes
abbrev pub most_cached : ℕ
most_cached = 16

abbrev pub most_bytes : ℕ
most_bytes = 268435456

-- there is room in the cache for one more dictionary of this size
abbrev pub have_room : ℕ → List Kept → Bool
have_room bytes held =
    nat_lt (length held) most_cached && nat_le (sum_by kept_bytes held + bytes) most_bytes

-- drops the oldest until there is room
abbrev pub with_room : ℕ → List Kept → List Kept
with_room bytes [] = []
with_room bytes (oldest ∷ held) =
    if have_room bytes (oldest ∷ held) then oldest ∷ held else with_room bytes held

-- the newest dictionary is appended, unless memory ran out
abbrev pub HoldsOne : List Kept → Kept → List Kept → Type 0
HoldsOne held kept new = (new ≡ held ++ kept ∷ []) ⊎ (new ≡ held)

-- a dictionary that is too large is not cached and displaces no other
abbrev pub HoldsUnless : Bool → List Kept → Kept → List Kept → Type 0
HoldsUnless true old kept new = new ≡ old
HoldsUnless false old kept new = HoldsOne (with_room (kept_bytes kept) old) kept new

abbrev pub Holds : List Kept → Kept → List Kept → Type 0
Holds old kept new = HoldsUnless (nat_lt most_bytes (kept_bytes kept)) old kept new
