-- Finite sums of fractions, and vectors.
use Rattle.std.proofs.Common.{ℕ, zero, suc, List, get_or}
use Rattle.rational.specs.Rational.{ℚ, zero_ℚ, ◌+ℚ◌}

-- the sum of f 0 to f (n - 1)
unfoldable pub sum_ℚ : ℕ → (ℕ → ℚ) → ℚ
unfolding zero_ℚ ◌+ℚ◌
sum_ℚ zero f = zero_ℚ
sum_ℚ (suc n) f = sum_ℚ n f +ℚ f n

-- a vector's item, which is 0 past its end
abbrev pub at : List ℚ → ℕ → ℚ
at xs i = get_or xs i zero_ℚ
