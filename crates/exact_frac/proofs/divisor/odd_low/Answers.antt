use Rattle.std.proofs.Common.{◌∙◌, ap}
use Rattle.rational.specs.Gcd.{gcd}
use Rattle.exact_frac.proofs.Binary.{step_keeps, gcd-same}
use Rattle.exact_frac.proofs.divisor.odd_low.Goals as goal

pub loop-x-preserved : goal.loop-x-preserved
loop-x-preserved c =
    step_keeps 64 c.loop-x.x c.loop-x.y _ _ _ c.loop-x.invariant c.loop-x-test.true c.abs_diff-rest.type_inv c.abs_diff-rest.ensures c.min-y.ensures

pub returns : goal.returns
returns c = gcd-same c.loop-x.x ∙ ap (gcd c.loop-x.x) c.loop-x-test.false ∙ c.loop-x.invariant.2
