-- Texts that follow one another in one byte list.
use Rattle.std.specs.Prelude.{ℕ, ◌-◌, ◌==◌, ◌&&◌, List, [], ◌∷◌, Bool, drop, nat_le, take}

-- the texts of `bytes` from offset `from` on, given where each one ends
abbrev pub texts_from : List ℕ → ℕ → List ℕ → List (List ℕ)
texts_from bytes from [] = []
texts_from bytes from (end ∷ ends) = take (end - from) (drop from bytes) ∷ texts_from bytes end ends

-- the ends never decrease, and the last one is `last`
abbrev pub rise : ℕ → List ℕ → ℕ → Bool
rise from [] last = from == last
rise from (end ∷ ends) last = nat_le from end && rise end ends last
