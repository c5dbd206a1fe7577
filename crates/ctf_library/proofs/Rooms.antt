-- Quota checks.
use Rattle.std.proofs.Common.{◌≡◌, ◌≤◌, ◌<◌, ℕ, Bool, true, false, refl}
use Rattle.std.specs.Prelude.{nat_lt, not}
use Rattle.std.proofs.lemmas.Bool.{ltb-false, ltb-true}
use Rattle.ctf_protocol.specs.sessions.Outcomes.{quota}

-- there is room for `n`
pub room_le : (n : ℕ) → not (nat_lt quota n) ≡ true → n ≤ quota
room_le n e = at (nat_lt quota n) refl e
  where
    at : (b : Bool) → nat_lt quota n ≡ b → not b ≡ true → n ≤ quota
    at true t h = absurd cc
    at false t h = ltb-false quota n t

-- there is no room for `n`
pub room_lt : (n : ℕ) → not (nat_lt quota n) ≡ false → quota < n
room_lt n e = at (nat_lt quota n) refl e
  where
    at : (b : Bool) → nat_lt quota n ≡ b → not b ≡ false → quota < n
    at true t h = ltb-true quota n t
    at false t h = absurd cc
