-- The product of a/b and c/d in lowest terms, where each of the two is: what a and d share, and c and b, is taken out before
-- the products.
use Rattle.std.specs.Prelude.{ℕ, ◌*◌, ◌/◌}
use Rattle.rational.specs.Gcd.{gcd}

abbrev pub product_size : ℕ → ℕ → ℕ → ℕ → ℕ
product_size a b c d = a / gcd a d * (c / gcd c b)

abbrev pub product_denom : ℕ → ℕ → ℕ → ℕ → ℕ
product_denom a b c d = b / gcd c b * (d / gcd a d)
