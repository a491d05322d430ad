use Rattle.std.proofs.Common.{◌≢◌, ◌<◌, ℕ}
use Rattle.rational.specs.Rational.{zero_ℚ}
use Rattle.rational.specs.Sum.{at}
use Rattle.lp_run.specs.Instance.{structural}
use Rattle.run_outcome.proofs.total.has_product.Given as goal

-- the structurals before show no product
abbrev pub invariant-loop-j : goal.invariant-loop-j
invariant-loop-j l = (k : ℕ) → k < l.j → ¬ (((structural l.inst k).cost ≢ zero_ℚ) × (at l.x k ≢ zero_ℚ))
