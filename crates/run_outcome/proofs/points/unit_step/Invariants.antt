use Rattle.std.proofs.Common.{◌≡◌, ◌<◌, ℕ, length, cond, eqb}
use Rattle.rational.specs.Rational.{zero_ℚ}
use Rattle.rational.specs.Sum.{at}
use Rattle.bland_ratio.specs.Leave.{direction_where}
use Rattle.run_outcome.proofs.points.unit_step.Given as goal

abbrev pub invariant-loop-j : goal.invariant-loop-j
invariant-loop-j l = record {
  count : length l.r.items ≡ l.j;
  each : (k : ℕ) → k < l.j → at l.r.items k ≡ cond (eqb k l.q) (direction_where l.down) zero_ℚ;
}
