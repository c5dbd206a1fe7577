-- Scaling a 32-bit number to a count: `hash * count / 2^32` is below the count.
use Rattle.std.proofs.Common.{ℕ, ◌*◌, ◌/◌, ◌^◌, ◌<◌, ◌≤◌, arith}
use Rattle.std.proofs.Math.Nat.{div-le_of_le-mul, mul-le-mul, mul-le-mul_right}

pub share_inside : (h n : ℕ) → h < 2 ^ 32 → h * n / 2 ^ 32 ≤ n
share_inside h n below = let le : h ≤ 2 ^ 32 = omega (arith, below) in div-le_of_le-mul (2 ^ 32) (mul-le-mul_right n le)

pub share_fits : (h n : ℕ) → h < 2 ^ 32 → n < 2 ^ 16 → h * n < 2 ^ 64
share_fits h n below few =
    let le : h ≤ 2 ^ 32 = omega (arith, below) in
    let less : n ≤ 2 ^ 16 = omega (arith, few) in
    let most : h * n ≤ 2 ^ 32 * 2 ^ 16 = mul-le-mul le less in
    omega (arith, most)
