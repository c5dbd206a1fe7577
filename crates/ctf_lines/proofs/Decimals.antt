-- Numbers of two and three digits, and numbers of a digit more.
use Rattle.std.proofs.Common.{◌≡◌, ℕ, ◌+◌, ◌<◌, ◌≤◌, ◌/◌, ◌%◌, [], ◌∷◌, ◌++◌, decimal, refl, arith}
use Rattle.std.proofs.lemmas.Fmt.{decimal_digit, decimal_step}

pub two_digits : (n a b : ℕ) → 10 ≤ n → n < 100 → a ≡ 48 + n / 10 → b ≡ 48 + n % 10 → a ∷ b ∷ [] ≡ decimal n
two_digits n a b lo hi p q = rw (p, q, decimal_step n lo (omega arith), decimal_digit (n / 10) (omega arith)) refl

pub three_digits : (n a b c : ℕ) → 100 ≤ n → n < 1000 → a ≡ 48 + n / 10 / 10 → b ≡ 48 + n / 10 % 10 → c ≡ 48 + n % 10 → a ∷ b ∷ c ∷ [] ≡ decimal n
three_digits n a b c lo hi p q r = rw (p, q, r, decimal_step n (omega arith) (omega arith), decimal_step (n / 10) (omega arith) (omega arith), decimal_digit (n / 10 / 10) (omega arith)) refl

-- the digits of all but the last, and the last
pub digit_more : (n a : ℕ) → 1000 ≤ n → n < 100000 → a ≡ 48 + n % 10 → decimal (n / 10) ++ (a ∷ []) ≡ decimal n
digit_more n a lo hi p = rw (p, decimal_step n (omega arith) (omega arith)) refl
