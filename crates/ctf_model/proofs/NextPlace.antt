-- The computed offset of a member: the next one that its alignment allows.
use Rattle.std.proofs.Common.{◌≡◌, ℕ, ◌+◌, ◌-◌, ◌*◌, ◌/◌, ◌%◌, ◌<◌, ◌≤◌, max, Bool, true, false, eqb, refl, ap, ◌∙◌, arith}
use Rattle.std.specs.Int.{next_multiple_of}
use Rattle.std.proofs.Math.Nat.{mod-eq_of_lt, mod-lt, mul-mod_left, mul_left_comm, mod_self}
use Rattle.std.proofs.lemmas.Bool.{eqb-true, eqb-false}
use Rattle.std.proofs.lemmas.Nat.{div-add-mod'}
use Rattle.ctf_model.specs.drafts.DraftLaws.{IsNextPlace}
use Rattle.ctf_model.specs.drafts.Placement.{aligned_from, bytes_holding}

-- the next multiple of `a` is a multiple of `a`, not below `c`, and less than `c + a`
next_is : (c a : ℕ) → 0 < a → (k : ℕ) × (next_multiple_of c a ≡ k * a) × (c ≤ next_multiple_of c a) × (next_multiple_of c a < c + a)
next_is c a some = at (eqb (c % a) 0) refl
  where
    at : (b : Bool) → eqb (c % a) 0 ≡ b → (k : ℕ) × (next_multiple_of c a ≡ k * a) × (c ≤ next_multiple_of c a) × (next_multiple_of c a < c + a)
    at true e =
        let none : c % a ≡ 0 = eqb-true (c % a) 0 e in
        let parts = div-add-mod' c a in
        let whole : a - c % a ≡ a = omega arith in
        let same : (a - c % a) % a ≡ 0 = ap (λ (n : ℕ). n % a) whole ∙ mod_self a in
        (c / a, omega arith, omega arith, omega arith)
    at false e =
        let more = eqb-false (c % a) 0 e in
        let parts = div-add-mod' c a in
        let lt = mod-lt c some in
        let rest : (a - c % a) % a ≡ a - c % a = mod-eq_of_lt (omega (arith, more)) in
        (c / a + 1, omega arith, omega arith, omega arith)

holding : (bit : ℕ) → (bit ≤ 8 * bytes_holding bit) × (8 * bytes_holding bit < bit + 8)
holding bit = (omega arith, omega arith)

pub places_next : (bit align : ℕ) → IsNextPlace bit align (aligned_from bit align)
places_next bit align =
    let next = next_is (bytes_holding bit) (max align 1) (omega arith) in
    let is = next.1 in
    let held = holding bit in
    let above = next.2 in
    let below = next.3 in
    let same : aligned_from bit align ≡ next.0 * (8 * max align 1) = ap (λ (q : ℕ). 8 * q) next.1 ∙ mul_left_comm 8 next.0 (max align 1) in
    record { aligned = rw same (mul-mod_left next.0 (8 * max align 1)); behind = omega arith; near = omega arith }
