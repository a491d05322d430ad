use Rattle.std.proofs.Common.{arith}
use Rattle.rational.specs.Rational.{neg_ℚ}
use Rattle.run_outcome.proofs.Shown.{image_of}
use Rattle.run_outcome.proofs.points.negate_all.Goals as goal

pub returns : goal.returns
returns c = image_of neg_ℚ c.args.y.now c.loop-number.y c.loop-number.invariant.count (λ k h. c.loop-number.invariant.negated k (omega arith))
