-- The dictionaries that a cache drops.
use Rattle.std.proofs.Common.{◌≡◌, ◌≤◌, ◌<◌, ◌+◌, ℕ, List, [], ◌∷◌, length, Bool, true, false, leb, ltb, sum_by, refl, arith}
use Rattle.std.specs.Prelude.{◌&&◌}
use Rattle.std.proofs.lemmas.Bool.{leb-true, ltb-true}
use Rattle.ctf_library.specs.Pooling.{have_room, most_bytes, most_cached, with_room}
use Rattle.ctf_model.specs.spaces.Kept.{Kept}
use Rattle.ctf_model.specs.opened.Sizes.{kept_bytes}

-- if there is room, all stay
pub roomy : (n : ℕ) (held : List Kept) → have_room n held ≡ true → with_room n held ≡ held
roomy n [] e = refl
roomy n (x ∷ xs) e = rw e refl

parts_true : (a b : Bool) → (a && b) ≡ true → (a ≡ true) × (b ≡ true)
parts_true true b h = (refl, h)
parts_true false b h = absurd cc

-- there is room for `n` more bytes
pub record IsRoomy (n : ℕ) (held : List Kept) : Type 0 where
  pub few : length held < most_cached
  pub small : sum_by kept_bytes held + n ≤ most_bytes

roomy_case : (n : ℕ) (x : Kept) (xs : List Kept) (b : Bool) → have_room n (x ∷ xs) ≡ b → IsRoomy n (with_room n xs) → IsRoomy n (with_room n (x ∷ xs))
roomy_case n x xs true e later =
    let both = parts_true (ltb (length (x ∷ xs)) most_cached) (leb (sum_by kept_bytes (x ∷ xs) + n) most_bytes) e in
    rw e (record { few = ltb-true (length (x ∷ xs)) most_cached both.0; small = leb-true (sum_by kept_bytes (x ∷ xs) + n) most_bytes both.1 })
roomy_case n x xs false e later = rw e later

-- after dropping, there is room
pub is_roomy : (n : ℕ) (held : List Kept) → n ≤ most_bytes → IsRoomy n (with_room n held)
is_roomy n [] le = record { few = omega arith; small = omega (arith, le) }
is_roomy n (x ∷ xs) le = roomy_case n x xs (have_room n (x ∷ xs)) refl (is_roomy n xs le)
