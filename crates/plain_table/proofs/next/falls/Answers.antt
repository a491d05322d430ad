use Rattle.std.proofs.Common.{◌∙◌, ap}
use Rattle.std.specs.Ordering.{is_lt}
use Rattle.rational.specs.Rational.{lt_ℚ}
use Rattle.rational.proofs.OrderLaws.{is_lt-cmp_ℚ}
use Rattle.exact_frac.specs.Constants.{ratio-zero}
use Rattle.plain_table.proofs.Coming.{way_where}
use Rattle.plain_table.proofs.next.falls.Goals as goal

pub returns : goal.returns
returns c = way_where c.args.cost c.is_lt.result (c.is_lt.ensures ∙ ap is_lt c.cmp.ensures ∙ is_lt-cmp_ℚ _ _ ∙ ap (lt_ℚ c.args.cost) ratio-zero)
