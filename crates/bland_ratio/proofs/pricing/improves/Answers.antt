-- Each side of 0 has a status.
use Rattle.std.proofs.Common.{◌↔◌, IsTrue, refl, sym, ◌∙◌, ap, subst}
use Rattle.std.specs.Ordering.{is_lt}
use Rattle.rational.specs.Rational.{zero_ℚ}
use Rattle.exact_frac.specs.Constants.{ratio-zero}
use Rattle.lp_run.specs.Step.{Improves}
use Rattle.bland_ratio.proofs.Stopping.{below_tested}
use Rattle.bland_ratio.proofs.pricing.improves.Goals as goal

pub returns-in-Lower : goal.returns-in-Lower
returns-in-Lower c =
    subst (λ st. IsTrue c.is_lt.result ↔ Improves st c.args.d) (sym c.in-Lower.is)
    (below_tested c.args.d _ c.args.d zero_ℚ c.is_lt.result refl ratio-zero (c.is_lt.ensures ∙ ap is_lt c.cmp.ensures))

pub returns-in-Upper : goal.returns-in-Upper
returns-in-Upper c =
    subst (λ st. IsTrue c.is_lt-in-Upper.result ↔ Improves st c.args.d) (sym c.in-Upper.is)
    (below_tested _ c.args.d zero_ℚ c.args.d c.is_lt-in-Upper.result ratio-zero refl (c.is_lt-in-Upper.ensures ∙ ap is_lt c.cmp-in-Upper.ensures))
