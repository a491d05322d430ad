use Rattle.std.proofs.Common.{◌∙◌, ap}
use Rattle.rational.specs.Gcd.{gcd}
use Rattle.exact_frac.proofs.Binary.{gcd-same}
use Rattle.exact_frac.proofs.fraction.sum.over_common.Goals as goal

pub returns-then-left-right-clause-divisor : goal.returns-then-left-right-clause-divisor
returns-then-left-right-clause-divisor c = gcd-same c.args.left ∙ ap (gcd c.args.left) c.if-left-right.true
