use Rattle.std.proofs.Common.{◌≢◌, ◌<◌, below_more, get_or-set_same, get_or-set_other, length, ◌∙◌, arith}
use Rattle.rational.specs.Rational.{zero_ℚ}
use Rattle.exact_frac.specs.Constants.{ratio-zero}
use Rattle.upper_form.proofs.Steps.{is_cleared}
use Rattle.upper_form.proofs.clear.Goals as goal

pub returns : goal.returns
returns c = is_cleared c.loop-x.out (length c.args.out.now) (omega arith) (λ k lt. c.loop-x.invariant k (omega arith))

pub loop-x-preserved : goal.loop-x-preserved
loop-x-preserved c =
    let lt : c.loop-x.x-index < length c.loop-x.out = omega arith in
    below_more _ _
    (λ k h. let ne : k ≢ c.loop-x.x-index = omega arith in get_or-set_other c.loop-x.out c.loop-x.x-index k _ zero_ℚ ne ∙ c.loop-x.invariant k h)
    (get_or-set_same c.loop-x.out c.loop-x.x-index _ zero_ℚ lt ∙ ratio-zero)
