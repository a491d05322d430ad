use Rattle.std.proofs.Common.{Option, sym, ◌∙◌, ap}
use Rattle.rational.specs.Rational.{ℚ}
use Rattle.rational.proofs.OrderLaws.{is_le-cmp_ℚ}
use Rattle.cert_check.specs.Items.{is_not_below}
use Rattle.cert_check.proofs.ends.is_not_below.Goals as goal

pub returns-in-Some : goal.returns-in-Some
returns-in-Some c = c.le.ensures ∙ is_le-cmp_ℚ c.in-Some.end c.args.x ∙ ap (λ (o : Option ℚ). is_not_below o c.args.x) (sym c.in-Some.is)
