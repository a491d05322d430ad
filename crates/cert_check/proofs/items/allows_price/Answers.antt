use Rattle.std.proofs.Common.{Option, refl, sym, ◌∙◌, ap, ap₂}
use Rattle.lp_model.specs.Deck.{row}
use Rattle.rational.specs.Rational.{ℚ}
use Rattle.rational.specs.Worked.{done}
use Rattle.sparse_steps.proofs.Steps.{refused}
use Rattle.cert_check.specs.Items.{allows, is_at_end}
use Rattle.cert_check.specs.Sums.{interval_sum}
use Rattle.cert_check.proofs.Values.{settles-last, settles-never}
use Rattle.cert_check.proofs.items.allows_price.Goals as goal

pub returns-clause-settled : goal.returns-clause-settled
returns-clause-settled g c =
    settles-last _ (interval_sum (row c.args.deck.now c.args.i)) (λ ends. done (allows c.args.price (is_at_end ends.lower c.args.activity)
    (is_at_end ends.upper c.args.activity))) c.in_ok-ends.ends c.allows.result (allows c.args.price (is_at_end c.in_ok-ends.ends.lower c.args.activity)
    (is_at_end c.in_ok-ends.ends.upper c.args.activity)) (c.in_ok-ends.ensures.settled) refl (sym (c.allows.ensures ∙ ap₂ (allows c.args.price)
    (c.is_at_end-lower.ensures ∙ ap (λ (o : Option ℚ). is_at_end o c.args.activity) c.lower.ensures) (c.is_at_end-upper.ensures ∙ ap (λ (o : Option ℚ). is_at_end o c.args.activity) c.upper.ensures)))

pub returns-in_err-ends-clause-settled : goal.returns-in_err-ends-clause-settled
returns-in_err-ends-clause-settled g c =
    refused _ _ _ (λ x. x) (settles-never _ (interval_sum (row c.args.deck.now c.args.i)) (λ ends. done (allows c.args.price (is_at_end ends.lower c.args.activity)
    (is_at_end ends.upper c.args.activity))) (c.in_err-ends.ensures.settled)) c.from_residual.ensures.1
