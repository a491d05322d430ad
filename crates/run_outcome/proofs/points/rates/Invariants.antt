use Rattle.std.proofs.Common.{◌≡◌, ◌<◌, ℕ, length}
use Rattle.rational.specs.Rational.{neg_ℚ, ◌*ℚ◌}
use Rattle.rational.specs.Sum.{at}
use Rattle.bland_ratio.specs.Leave.{direction_where}
use Rattle.run_outcome.proofs.points.rates.Given as goal

abbrev pub invariant-loop-element : goal.invariant-loop-element
invariant-loop-element l = record {
  count : length l.rates.items ≡ l.element-index;
  each : (k : ℕ) → k < l.element-index → at l.rates.items k ≡ neg_ℚ (direction_where l.down) *ℚ at l.alpha k;
}
