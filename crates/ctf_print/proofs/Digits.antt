-- The bytes of a number of given width, and its digits.
use Rattle.std.proofs.Common.{◌≡◌, ℕ, zero, suc, [], ◌+◌, ◌-◌, ◌*◌, ◌^◌, ◌/◌, ◌%◌, ◌<◌, ◌≤◌, ◌++◌, min, ltb, true, false, Bool, List, refl, sym, ap, ◌∙◌, arith, append_assoc}
use Rattle.std.proofs.Math.Nat.{div-div-eq-div-mul, mod-lt}
use Rattle.std.proofs.lemmas.Nat.{pow-add, mod-pow-add, div-mul-add}
use Rattle.std.proofs.lemmas.Bool.{ltb-true, ltb-false}
use Rattle.ctf_model.specs.format.Bytes.{number}
use Rattle.ctf_model.specs.values.MemoryBits.{bits_at, hexadecimal}
use Rattle.ctf_model.specs.values.Pieces.{then_pieces, no_pieces, piece}
use Rattle.ctf_model.specs.dumps.Texts.{hex_of_byte}

-- ---- powers

pub positive : (k : ℕ) → 0 < 2 ^ k
positive zero = omega arith
positive (suc k) = let before = positive k in omega (arith, pow-add 2 k 1)

byte_power : (i : ℕ) → 256 ^ suc i ≡ 256 ^ i * 256
byte_power i = let e : suc i ≡ i + 1 = omega arith in rw e (pow-add 256 i 1)

bit_power : (i : ℕ) → 2 ^ suc i ≡ 2 ^ i * 2
bit_power i = let e : suc i ≡ i + 1 = omega arith in rw e (pow-add 2 i 1)

bytes_are : (i : ℕ) → 256 ^ i ≡ 2 ^ (8 * i)
bytes_are zero = refl
bytes_are (suc i) =
    let more : 8 * suc i ≡ 8 * i + 8 = omega arith in
    let before = bytes_are i in
    rw (more, pow-add 2 (8 * i) 8, ← before) (byte_power i)

-- ---- a byte of a number

-- the bits above `a`, below `c + a`
pub middle : (x a c : ℕ) → x % 2 ^ (c + a) / 2 ^ a ≡ x / 2 ^ a % 2 ^ c
middle x a c =
    let low : x % 2 ^ a < 2 ^ a = mod-lt x (positive a) in
    ap (λ n. n / 2 ^ a) (mod-pow-add x c a) ∙ div-mul-add (x / 2 ^ a % 2 ^ c) (2 ^ a) (x % 2 ^ a) low

low_byte : (y c : ℕ) → y % 2 ^ (c + 8) % 256 ≡ y % 256
low_byte y c =
    let split : y % 2 ^ (c + 8) ≡ (y / 256 % 2 ^ c) * 256 + y % 256 = mod-pow-add y c 8 in
    omega (arith, split)

few_bits : (y c : ℕ) → c < 8 → y % 2 ^ c % 256 ≡ y % 2 ^ c
few_bits y zero h = omega arith
few_bits y (suc zero) h = omega arith
few_bits y (suc (suc zero)) h = omega arith
few_bits y (suc (suc (suc zero))) h = omega arith
few_bits y (suc (suc (suc (suc zero)))) h = omega arith
few_bits y (suc (suc (suc (suc (suc zero))))) h = omega arith
few_bits y (suc (suc (suc (suc (suc (suc zero)))))) h = omega arith
few_bits y (suc (suc (suc (suc (suc (suc (suc zero))))))) h = omega arith
few_bits y (suc (suc (suc (suc (suc (suc (suc (suc c)))))))) h = absurd (omega arith)

byte_case : (y c : ℕ) (t : Bool) → ltb c 8 ≡ t → y % 2 ^ c % 256 ≡ y % 2 ^ min c 8
byte_case y c true e =
    let less = ltb-true c 8 e in
    let width : min c 8 ≡ c = omega arith in
    rw width (few_bits y c less)
byte_case y c false e =
    let more = ltb-false c 8 e in
    let width : min c 8 ≡ 8 = omega arith in
    let split : c ≡ (c - 8) + 8 = omega arith in
    rw width (ap (λ k. y % 2 ^ k % 256) split ∙ low_byte y (c - 8))

pub byte_is : (memory : List ℕ) (p width i : ℕ) → 8 * i < width → bits_at memory (p + 8 * i) (min (width - 8 * i) 8) ≡ bits_at memory p width / 256 ^ i % 256
byte_is memory p width i h =
    let split : width ≡ (width - 8 * i) + 8 * i = omega arith in
    let x : ℕ = number memory / 2 ^ p in
    let place : number memory / 2 ^ (p + 8 * i) ≡ number memory / 2 ^ p / 2 ^ (8 * i) = rw (pow-add 2 p (8 * i)) (sym (div-div-eq-div-mul (number memory) (2 ^ p) (2 ^ (8 * i)))) in
    let inside : bits_at memory p width / 2 ^ (8 * i) ≡ number memory / 2 ^ p / 2 ^ (8 * i) % 2 ^ (width - 8 * i) = ap (λ w. bits_at memory p w / 2 ^ (8 * i)) split ∙ middle (number memory / 2 ^ p) (8 * i) (width - 8 * i) in
    rw (bytes_are i, inside, place) (sym (byte_case (number memory / 2 ^ p / 2 ^ (8 * i)) (width - 8 * i) (ltb (width - 8 * i) 8) refl))

-- ---- digits

-- the digits of the highest byte come first
pub high_first : (k n : ℕ) → hexadecimal (suc k) n ≡ hex_of_byte (n / 256 ^ k % 256) ++ hexadecimal k n
unfolding hexadecimal
high_first zero n = let whole : n / 1 ≡ n = omega arith in rw whole refl
high_first (suc k) n =
    let deeper : n / 256 / 256 ^ k ≡ n / 256 ^ suc k = div-div-eq-div-mul n 256 (256 ^ k) ∙ ap (λ m. n / m) (times k) in
    ap (λ ds. ds ++ hex_of_byte (n % 256)) (high_first k (n / 256) ∙ ap (λ m. hex_of_byte (m % 256) ++ hexadecimal k (n / 256)) deeper)
    ∙ append_assoc (hex_of_byte (n / 256 ^ suc k % 256)) (hexadecimal k (n / 256)) (hex_of_byte (n % 256))
  where
    times : (k : ℕ) → 256 * 256 ^ k ≡ 256 ^ suc k
    times k = let p = byte_power k in omega (arith, p)

pub no_digits : (n : ℕ) → hexadecimal 0 n ≡ []
unfolding hexadecimal
no_digits n = refl

-- a piece cut in two
pub joined_piece : (a b : List ℕ) → piece (a ++ b) ≡ then_pieces (piece a) (piece b)
unfolding then_pieces
joined_piece a b = refl

-- ---- halves

-- without its highest bit there are half as many numbers
pub halves : (width : ℕ) → 0 < width → 2 ^ width ≡ 2 ^ (width - 1) * 2
halves zero h = absurd (omega arith)
halves (suc k) h = let e : suc k - 1 ≡ k = omega arith in rw e (bit_power k)

-- ---- remaining digits

-- those of the highest remaining byte, then the others
pub digits_left : (count i n : ℕ) → i < count → piece (hexadecimal (count - i) n) ≡ then_pieces (piece (hex_of_byte (n / 256 ^ (count - 1 - i) % 256))) (piece (hexadecimal (count - (i + 1)) n))
digits_left count i n h =
    let more : count - i ≡ suc (count - 1 - i) = omega arith in
    let less : count - (i + 1) ≡ count - 1 - i = omega arith in
    rw (more, less) (ap piece (high_first (count - 1 - i) n) ∙ joined_piece (hex_of_byte (n / 256 ^ (count - 1 - i) % 256)) (hexadecimal (count - 1 - i) n))

pub none_left : (count i n : ℕ) → count ≤ i → piece (hexadecimal (count - i) n) ≡ no_pieces
unfolding hexadecimal
none_left count i n h = let e : count - i ≡ 0 = omega arith in rw e refl
