-- A list in the order of turns. Source: ours.
use Rattle.std.specs.Prelude.{ℕ, List, [], ◌∷◌, nat_lt, if◌then◌else◌}

-- inserts an item before the first one with a later turn
abbrev pub insert_turn : {X : Type 0} → (X → ℕ) → X → List X → List X
insert_turn turn one [] = one ∷ []
insert_turn turn one (other ∷ others) =
    if nat_lt (turn one) (turn other) then one ∷ other ∷ others
    else other ∷ insert_turn turn one others

-- the items sorted by turn
unfoldable pub in_turn : {X : Type 0} → (X → ℕ) → List X → List X
in_turn turn [] = []
in_turn turn (one ∷ others) = insert_turn turn one (in_turn turn others)
