-- Bits of a number in memory.
use Rattle.std.proofs.Common.{◌≡◌, ℕ, zero, suc, ◌+◌, ◌-◌, ◌*◌, ◌^◌, ◌/◌, ◌%◌, ◌<◌, ◌≤◌, List, [], ◌∷◌, drop, take, get_or, sym, ap, ◌∙◌, arith}
use Rattle.std.proofs.Math.Nat.{div-div-eq-div-mul, div-one, mod-one, zero-div, zero-mod}
use Rattle.std.proofs.Math.Pow.{mod-mod-pow}
use Rattle.std.proofs.lemmas.List.{get_or-drop}
use Rattle.std.proofs.lemmas.Nat.{pow-add, mod-pow-add}
use Rattle.ctf_model.specs.format.Bytes.{number}
use Rattle.ctf_model.specs.values.MemoryBits.{bits_at}
use Rattle.ctf_print.proofs.Digits.{middle}

-- each is a byte
abbrev pub AreBytes : List ℕ → Type 0
AreBytes bs = (k : ℕ) → get_or bs k 0 < 256

-- removing the first byte removes its bits
behind_byte : (b n q : ℕ) → b < 256 → (b + 256 * n) / 2 ^ (8 + q) ≡ n / 2 ^ q
behind_byte b n q h =
    let whole : (b + 256 * n) / 256 ≡ n = omega arith in
    rw (pow-add 2 8 q) (sym (div-div-eq-div-mul (b + 256 * n) 256 (2 ^ q)) ∙ ap (λ m. m / 2 ^ q) whole)

number_behind : (bs : List ℕ) (k : ℕ) → AreBytes bs → number (drop k bs) ≡ number bs / 2 ^ (8 * k)
unfolding number
number_behind bs zero h = sym (div-one (number bs))
number_behind [] (suc k) h = sym (zero-div (2 ^ (8 * suc k)))
number_behind (b ∷ bs) (suc k) h =
    let more : 8 * suc k ≡ 8 + 8 * k = omega arith in
    rw more (number_behind bs k (λ j. h (suc j)) ∙ sym (behind_byte b (number bs) (8 * k) (h 0)))

-- the first bytes are the low bits
one_byte_more : (b n m q : ℕ) → b < 256 → m ≡ n % 2 ^ q → b + 256 * m ≡ (b + 256 * n) % 2 ^ (q + 8)
one_byte_more b n m q h same =
    let whole : (b + 256 * n) / 256 ≡ n = omega arith in
    let low : (b + 256 * n) % 256 ≡ b = omega arith in
    let split : (b + 256 * n) % 2 ^ (q + 8) ≡ ((b + 256 * n) / 256 % 2 ^ q) * 256 + (b + 256 * n) % 256 = mod-pow-add (b + 256 * n) q 8 in
    let high : (b + 256 * n) / 256 % 2 ^ q ≡ m = ap (λ x. x % 2 ^ q) whole ∙ sym same in
    omega (arith, split, high, low)

number_in_front : (bs : List ℕ) (n : ℕ) → AreBytes bs → number (take n bs) ≡ number bs % 2 ^ (8 * n)
unfolding number
number_in_front bs zero h = sym (mod-one (number bs))
number_in_front [] (suc n) h = sym (zero-mod (2 ^ (8 * suc n)))
number_in_front (b ∷ bs) (suc n) h =
    let more : 8 * suc n ≡ 8 * n + 8 = omega arith in
    rw more (one_byte_more b (number bs) (number (take n bs)) (8 * n) (h 0) (number_in_front bs n (λ j. h (suc j))))

bytes_behind : (bs : List ℕ) (k : ℕ) → AreBytes bs → AreBytes (drop k bs)
bytes_behind bs k h j = rw (get_or-drop k bs j 0) (h (k + j))

-- the low bits of a number, from one of them on
inside : (x f w all : ℕ) → f + w ≤ all → x % 2 ^ all / 2 ^ f % 2 ^ w ≡ x / 2 ^ f % 2 ^ w
inside x f w all h =
    let rest = all - (f + w) in
    let split : all ≡ (rest + w) + f = omega arith in
    rw split (ap (λ m. m % 2 ^ w) (middle x f (rest + w)) ∙ mod-mod-pow (x / 2 ^ f) rest w)

-- the bits from `p` on are in the bytes from `p / 8` on, as many as they span
pub bits_are : (memory : List ℕ) (p w n : ℕ) → AreBytes memory → p % 8 + w ≤ 8 * n → number (take n (drop (p / 8) memory)) / 2 ^ (p % 8) % 2 ^ w ≡ bits_at memory p w
bits_are memory p w n h few =
    let from = drop (p / 8) memory in
    let place : p ≡ 8 * (p / 8) + p % 8 = omega arith in
    let whole : 2 ^ p ≡ 2 ^ (8 * (p / 8)) * 2 ^ (p % 8) = ap (λ q. 2 ^ q) place ∙ pow-add 2 (8 * (p / 8)) (p % 8) in
    let behind = number_behind memory (p / 8) h in
    let both = div-div-eq-div-mul (number memory) (2 ^ (8 * (p / 8))) (2 ^ (p % 8)) in
    ap (λ x. x / 2 ^ (p % 8) % 2 ^ w) (number_in_front from n (bytes_behind memory (p / 8) h))
    ∙ inside (number from) (p % 8) w (8 * n) few
    ∙ ap (λ x. x / 2 ^ (p % 8) % 2 ^ w) behind
    ∙ ap (λ x. x % 2 ^ w) (both ∙ ap (λ x. number memory / x) (sym whole))
