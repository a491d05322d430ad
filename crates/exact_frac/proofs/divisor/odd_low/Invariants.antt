use Rattle.std.proofs.Common.{◌+◌}
use Rattle.rational.specs.Gcd.{gcd}
use Rattle.exact_frac.proofs.Binary.{Odds}
use Rattle.exact_frac.proofs.divisor.odd_low.Given as goal

abbrev pub invariant-loop-x : goal.invariant-loop-x
invariant-loop-x l = Odds l.x l.y (gcd l.fn.a l.fn.b)

abbrev pub decreases-loop-x : goal.decreases-loop-x
decreases-loop-x l = l.x + l.y
