-- The greatest common divisor of two numbers, and what is in lowest terms.
use Rattle.std.specs.Prelude.{◌≡◌, ℕ, zero, suc, ◌/◌, ◌%◌, ℤ, pos, negsuc, neg_ℤ, nat_abs, Bool, ◌&&◌}
use Rattle.std.proofs.Common.{eqb, ltb}

-- Euclid's algorithm, with a bound on its steps: each step takes the second number down
unfoldable pub gcd_within : ℕ → ℕ → ℕ → ℕ
gcd_within zero a b = a
gcd_within (suc steps) a zero = a
gcd_within (suc steps) a (suc b) = gcd_within steps (suc b) (a % suc b)

-- the greatest common divisor of two numbers, which is the other number where one is 0
unfoldable pub gcd : ℕ → ℕ → ℕ
unfolding gcd_within
gcd a b = gcd_within (suc b) a b

-- two numbers with no common factor
abbrev pub IsCoprime : ℕ → ℕ → Type 0
IsCoprime a b = gcd a b ≡ 1

-- no common divisor above 1, and a denominator above 0
unfoldable pub is_lowest : ℤ → ℕ → Bool
unfolding gcd
is_lowest p q = eqb (gcd (nat_abs p) q) 1 && ltb 0 q

-- an integer divided by a divisor of it
unfoldable pub quotient : ℤ → ℕ → ℤ
quotient (pos n) g = pos (n / g)
quotient (negsuc n) g = neg_ℤ (pos (suc n / g))
