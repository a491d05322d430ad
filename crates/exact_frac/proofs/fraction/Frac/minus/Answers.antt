use Rattle.std.proofs.Common.{subst}
use Rattle.rational.specs.Rational.{◌+ℚ◌, ◌-ℚ◌}
use Rattle.exact_frac.specs.Exact.{Exact}
use Rattle.exact_frac.proofs.fraction.Frac.minus.Goals as goal

pub returns : goal.returns
unfolding ◌-ℚ◌
returns c = subst (λ z. Exact 127 (c.args.self +ℚ z) c.plus.result) c.negated.ensures c.plus.ensures
