use Rattle.std.proofs.lemmas.Slice.Eq.{slice_eq-Decides}
use Rattle.rational.specs.Rational.{eq_ℚ}
use Rattle.rational.proofs.OrderLaws.{eq_ℚ-decides}
use Rattle.run_audit.proofs.compare.same_numbers.Goals as goal

-- two numbers are compared by their parts
pub returns : goal.returns
unfolding eq_ℚ
returns c = slice_eq-Decides eq_ℚ-decides c.args.a.now c.args.b.now c.eq.result c.eq.ensures
