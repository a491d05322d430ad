use Rattle.std.proofs.Common.{refl, sym, ◌∙◌, ap, ap₂}
use Rattle.lp_model.specs.Deck.{in_sense}
use Rattle.rational.specs.Rational.{ℚ, zero_ℚ, lt_ℚ}
use Rattle.rational.specs.Worked.{done, settle}
use Rattle.rational.proofs.OrderLaws.{is_lt-cmp_ℚ}
use Rattle.exact_frac.specs.Constants.{ratio-zero}
use Rattle.sparse_steps.proofs.Steps.{refused}
use Rattle.cert_check.specs.Sums.{added, cost_sum, cost_terms}
use Rattle.cert_check.proofs.Tests.{sense-like}
use Rattle.cert_check.proofs.Values.{settles-last, settles-never}
use Rattle.cert_check.proofs.items.ray_cost.Goals as goal

pub returns-clause-settled : goal.returns-clause-settled
returns-clause-settled g c =
    let d = c.args.deck.now in
    settles-last _ (cost_sum d c.args.ray.now) (λ z. done (lt_ℚ (in_sense d.sense z) zero_ℚ)) c.in_ok-cost.cost c.lt.result
    (lt_ℚ (in_sense d.sense c.in_ok-cost.cost) zero_ℚ) (ap (λ (s : ℚ). settle (g.A.Arith.width c.args.arith.now) (added s (cost_terms d c.args.ray.now)))
    (sym ratio-zero) ∙ c.in_ok-cost.ensures.settled) refl (sym (c.lt.ensures ∙ is_lt-cmp_ℚ _ _
    ∙ ap₂ lt_ℚ (c.in_sense.ensures ∙ sense-like _ c.sense.ensures) ratio-zero))

pub returns-in_err-cost-clause-settled : goal.returns-in_err-cost-clause-settled
returns-in_err-cost-clause-settled g c =
    let d = c.args.deck.now in
    refused _ _ _ (λ x. x) (settles-never _ (cost_sum d c.args.ray.now) (λ z. done (lt_ℚ (in_sense d.sense z) zero_ℚ))
    (ap (λ (s : ℚ). settle (g.A.Arith.width c.args.arith.now) (added s (cost_terms d c.args.ray.now))) (sym ratio-zero) ∙ c.in_err-cost.ensures.settled)) c.from_residual.ensures.1
