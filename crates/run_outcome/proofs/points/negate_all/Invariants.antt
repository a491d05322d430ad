use Rattle.std.proofs.Common.{◌≡◌, ◌<◌, ◌≤◌, ℕ, length}
use Rattle.rational.specs.Rational.{neg_ℚ}
use Rattle.rational.specs.Sum.{at}
use Rattle.run_outcome.proofs.points.negate_all.Given as goal

abbrev pub invariant-loop-number : goal.invariant-loop-number
invariant-loop-number l = record {
  count : length l.y ≡ length l.fn.y;
  negated : (k : ℕ) → k < l.number-index → at l.y k ≡ neg_ℚ (at l.fn.y k);
  left : (k : ℕ) → l.number-index ≤ k → at l.y k ≡ at l.fn.y k;
}
