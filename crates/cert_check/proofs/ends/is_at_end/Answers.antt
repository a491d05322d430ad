use Rattle.std.proofs.Common.{Option, sym, ◌∙◌, ap}
use Rattle.rational.specs.Rational.{ℚ, eq_ℚ}
use Rattle.cert_check.specs.Items.{is_at_end}
use Rattle.cert_check.proofs.ends.is_at_end.Goals as goal

pub returns-in-Some : goal.returns-in-Some
unfolding eq_ℚ
returns-in-Some c = c.eq.ensures ∙ ap (λ (o : Option ℚ). is_at_end o c.args.x) (sym c.in-Some.is)
