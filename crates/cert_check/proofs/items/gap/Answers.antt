use Rattle.rational.specs.Rational.{zero_ℚ}
use Rattle.sparse_steps.proofs.Steps.{refused}
use Rattle.cert_check.specs.Sums.{all_parts, parts_sum}
use Rattle.cert_check.specs.Inner.Groups.{exceeded}
use Rattle.cert_check.proofs.Values.{settles-never, settles-then}
use Rattle.cert_check.proofs.items.gap.Goals as goal

pub returns-clause-settled : goal.returns-clause-settled
returns-clause-settled g c =
    settles-then _ (parts_sum zero_ℚ (all_parts c.args.deck.now c.args.y.now)) (exceeded c.args.deck.now c.args.y.now) _ c.in_ok-most.most c.is_exceeded.result
    c.all_parts.ensures.width c.in_ok-most.ensures.settled (c.is_exceeded.ensures.settled)

pub returns-in_err-most-clause-settled : goal.returns-in_err-most-clause-settled
returns-in_err-most-clause-settled g c =
    refused _ _ _ (λ x. x) (settles-never _ (parts_sum zero_ℚ (all_parts c.args.deck.now c.args.y.now)) (exceeded c.args.deck.now c.args.y.now) (c.in_err-most.ensures.settled)) c.from_residual.ensures.1
