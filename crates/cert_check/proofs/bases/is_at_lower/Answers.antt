use Rattle.std.proofs.Common.{Option, sym, ◌∙◌, ap}
use Rattle.rational.specs.Rational.{ℚ, eq_ℚ}
use Rattle.exact_frac.specs.Constants.{ratio-zero}
use Rattle.cert_check.specs.Items.{is_at_lower}
use Rattle.cert_check.proofs.bases.is_at_lower.Goals as goal

pub returns-in-Some : goal.returns-in-Some
unfolding eq_ℚ
returns-in-Some c = c.eq.ensures ∙ ap (λ (o : Option ℚ). is_at_lower o c.args.v) (sym c.in-Some.is)

pub returns-in-None : goal.returns-in-None
unfolding eq_ℚ
returns-in-None c = c.eq-in-None.ensures ∙ ap (λ (z : ℚ). eq_ℚ z c.args.v) ratio-zero ∙ ap (λ (o : Option ℚ). is_at_lower o c.args.v) (sym c.in-None.is)
