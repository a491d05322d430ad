-- How large a product is, by the leading zeros of its factors.
use Rattle.std.proofs.Common.{◌≡◌, ℕ, zero, suc, ◌+◌, ◌*◌, ◌^◌, ◌<◌, ◌≤◌, arith}
use Rattle.std.specs.Int.Count.{count_leading_zeros}
use Rattle.std.proofs.lemmas.Nat.{leading_length, mul-lt, pow-add}
use Rattle.std.proofs.Math.Nat.{pow-suc, pow-le-pow_right, mul-le-mul}

below_power : (a b m n : ℕ) → a < 2 ^ m → b < 2 ^ n → m + n ≤ 128 → a * b < 2 ^ 128
below_power a b m n p q h =
    let product : a * b < 2 ^ m * 2 ^ n = mul-lt a b (2 ^ m) (2 ^ n) p q in
    let joined : 2 ^ (m + n) ≡ 2 ^ m * 2 ^ n = pow-add 2 m n in
    let more : 2 ^ (m + n) ≤ 2 ^ 128 = pow-le-pow_right (omega arith) h in
    omega arith

-- factors with 128 leading zeros between them have a product of 128 bits
pub product_fits : (a b : ℕ) → a < 2 ^ 128 → b < 2 ^ 128 → 128 ≤ count_leading_zeros 128 a + count_leading_zeros 128 b → a * b < 2 ^ 128
product_fits a b p q h =
    let m = leading_length 128 a p in
    let n = leading_length 128 b q in
    below_power a b m.0 n.0 m.2 n.2 (omega (arith, m.1, n.1))

half_power : (i a : ℕ) → 2 ^ suc i ≤ 2 * a + 1 → 2 ^ i ≤ a
half_power i a h = omega (arith, pow-suc 2 i)

above_power : (a b m n : ℕ) → 2 ^ m ≤ 2 * a + 1 → 2 ^ n ≤ 2 * b + 1 → m ≤ 128 → n ≤ 128 → 128 < m + n → 2 ^ 127 ≤ a * b
above_power a b zero n p q s t h = absurd (omega arith)
above_power a b (suc i) zero p q s t h = absurd (omega arith)
above_power a b (suc i) (suc j) p q s t h =
    let product : 2 ^ i * 2 ^ j ≤ a * b = mul-le-mul (half_power i a p) (half_power j b q) in
    let joined : 2 ^ (i + j) ≡ 2 ^ i * 2 ^ j = pow-add 2 i j in
    let far : 127 ≤ i + j = omega arith in
    let more : 2 ^ 127 ≤ 2 ^ (i + j) = pow-le-pow_right (omega arith) far in
    omega arith

-- factors with fewer have a product of more than 127 bits
pub product_wide : (a b : ℕ) → a < 2 ^ 128 → b < 2 ^ 128 → count_leading_zeros 128 a + count_leading_zeros 128 b < 128 → 2 ^ 127 ≤ a * b
product_wide a b p q h =
    let m = leading_length 128 a p in
    let n = leading_length 128 b q in
    above_power a b m.0 n.0 m.3 n.3 (omega (arith, m.1)) (omega (arith, n.1)) (omega (arith, m.1, n.1))

pub product_narrow : (a b : ℕ) → a < 2 ^ 128 → b < 2 ^ 128 → count_leading_zeros 128 a + count_leading_zeros 128 b < 128 → a * b < 2 ^ 127 → ⊥
product_narrow a b p q h k = let wide : 2 ^ 127 ≤ a * b = product_wide a b p q h in omega arith
