-- The answers: an optimal point with its prices and its objective, a Farkas row, or a feasible point with a ray.
use Rattle.std.specs.Prelude.{List}
use Rattle.rational.specs.Rational.{ℚ}

pub data Outcome : Type 0 where
  optimal : (x y : List ℚ) → ℚ → Outcome
  infeasible : (y : List ℚ) → Outcome
  unbounded : (x ray : List ℚ) → Outcome
