use Rattle.std.proofs.Common.{cond, eqb, ◌∙◌, arith}
use Rattle.rational.specs.Rational.{zero_ℚ}
use Rattle.rational.proofs.VectorLaws.{list_of}
use Rattle.bland_ratio.specs.Leave.{direction_where}
use Rattle.run_outcome.proofs.points.unit_step.Goals as goal

pub returns : goal.returns
returns c =
    list_of (λ k. cond (eqb k c.args.q) (direction_where c.args.down) zero_ℚ) c.args.structurals c.loop-j.r.items
    (c.loop-j.invariant.count ∙ omega arith) (λ k h. c.loop-j.invariant.each k (omega arith))
