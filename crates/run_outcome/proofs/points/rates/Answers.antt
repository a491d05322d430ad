use Rattle.std.proofs.Common.{◌∙◌, arith}
use Rattle.rational.specs.Rational.{neg_ℚ, ◌*ℚ◌}
use Rattle.bland_ratio.specs.Leave.{direction_where}
use Rattle.run_outcome.proofs.Shown.{image_of}
use Rattle.run_outcome.proofs.points.rates.Goals as goal

pub returns : goal.returns
returns c =
    image_of (λ a. neg_ℚ (direction_where c.args.down) *ℚ a) c.args.alpha.now c.loop-element.rates.items
    (c.loop-element.invariant.count ∙ omega arith) (λ k h. c.loop-element.invariant.each k (omega arith))
