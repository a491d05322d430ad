use Rattle.std.proofs.Common.{◌≡◌, ℕ, ◌<◌}
use Rattle.rational.specs.Rational.{zero_ℚ}
use Rattle.rational.specs.Sum.{at}
use Rattle.upper_form.proofs.clear.Given as goal

abbrev pub invariant-loop-x : goal.invariant-loop-x
invariant-loop-x l = (k : ℕ) → k < l.x-index → at l.out k ≡ zero_ℚ
