use Rattle.std.specs.Option.{unwrap_or}
use Rattle.rational.specs.Rational.{zero_ℚ}
use Rattle.sparse_steps.proofs.Steps.{refused}
use Rattle.cert_check.specs.Sums.{logical_part, plus}
use Rattle.cert_check.proofs.Values.{settles-never, settles-then}
use Rattle.cert_check.proofs.parts.with_logical.Goals as goal

pub returns-clause-settled : goal.returns-clause-settled
returns-clause-settled g c =
    settles-then _ (logical_part c.args.deck.now c.args.y.now c.args.row) (λ part. plus c.args.sum (unwrap_or part zero_ℚ)) _ c.in_ok-part.part c.plus.result
    c.logical_part.ensures.width c.in_ok-part.ensures.settled c.plus.ensures.settled

pub returns-in_err-part-clause-settled : goal.returns-in_err-part-clause-settled
returns-in_err-part-clause-settled g c =
    refused _ _ _ (λ x. x) (settles-never _ (logical_part c.args.deck.now c.args.y.now c.args.row) (λ part. plus c.args.sum (unwrap_or part zero_ℚ)) c.in_err-part.ensures.settled) c.from_residual.ensures.1
