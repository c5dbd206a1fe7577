-- Signed numbers of a given width.
use Rattle.std.proofs.Common.{◌≡◌, ℕ, zero, suc, ◌+◌, ◌-◌, ◌^◌, ◌/◌, ◌<◌, ◌≤◌, refl, sym, ap, ◌∙◌, arith, pos, negsuc, to_z, w64}
use Rattle.std.specs.Prelude.{◌-ℤ◌}
use Rattle.std.proofs.Math.Facts.{to_z_pos, to_z-neg}
use Rattle.std.proofs.Math.Nat.{pow-le-pow_right}
use Rattle.std.proofs.lemmas.Nat.Bits.{ones_shr}
use Rattle.std.proofs.lemmas.Bool.{lt-ltb, le-ltb}
use Rattle.ctf_model.specs.values.MemoryBits.{signed_value}
use Rattle.ctf_print.proofs.Digits.{halves, positive}

-- a number with all bits set
pub all_ones : (width : ℕ) → width ≤ 64 → 18446744073709551615 / 2 ^ (64 - width) ≡ 2 ^ width - 1
all_ones width h =
    let e : 64 - (64 - width) ≡ width = omega arith in
    ones_shr 64 (64 - width) (omega arith) ∙ ap (λ k. 2 ^ k - 1) e

-- a power of two within 64 bits
pub below_all : (width : ℕ) → width ≤ 64 → 2 ^ width ≤ 18446744073709551616
below_all width h = pow-le-pow_right (omega arith) h

below_half : (width : ℕ) → width ≤ 64 → 2 ^ (width - 1) ≤ 9223372036854775808
below_half width h = let less : width - 1 ≤ 63 = omega arith in pow-le-pow_right (omega arith) less

not_negative : (width n : ℕ) → n < 2 ^ (width - 1) → signed_value width n ≡ pos n
not_negative width n h = let test = lt-ltb n (2 ^ (width - 1)) h in rw test refl

below_zero : (n m : ℕ) → n < m → pos n -ℤ pos m ≡ negsuc (m - 1 - n)
below_zero n zero h = absurd (omega arith)
below_zero n (suc k) h = let test = lt-ltb n (suc k) h in rw test (ap negsuc (omega arith))

negative : (width n : ℕ) → 2 ^ (width - 1) ≤ n → n < 2 ^ width → signed_value width n ≡ negsuc (2 ^ width - 1 - n)
negative width n h lt = let test = le-ltb n (2 ^ (width - 1)) h in rw test (below_zero n (2 ^ width) lt)

pub low_half : (width n : ℕ) → 0 < width → width ≤ 64 → n ≤ (2 ^ width - 1) / 2 → to_z w64 n ≡ signed_value width n
low_half width n some short h =
    let half = halves width some in
    let small = below_half width short in
    let some_numbers = positive (width - 1) in
    let less : n < 2 ^ (width - 1) = omega arith in
    to_z_pos w64 (omega arith) ∙ sym (not_negative width n less)

pub high_half : (width n m : ℕ) → 0 < width → width ≤ 64 → (2 ^ width - 1) / 2 < n → n < 2 ^ width → m ≡ n + (18446744073709551615 - (2 ^ width - 1)) → to_z w64 m ≡ signed_value width n
high_half width n m some short h lt is =
    let half = halves width some in
    let small = below_half width short in
    let all = below_all width short in
    let more : 2 ^ (width - 1) ≤ n = omega arith in
    let place : m ≡ 18446744073709551616 - suc (2 ^ width - 1 - n) = omega arith in
    rw place (to_z-neg w64 (2 ^ width - 1 - n) (omega arith)) ∙ sym (negative width n more lt)

pub fits_word : (width n : ℕ) → width ≤ 64 → n < 2 ^ width → n + (18446744073709551615 - (2 ^ width - 1)) < 18446744073709551616
fits_word width n short lt = let all = below_all width short in omega arith
