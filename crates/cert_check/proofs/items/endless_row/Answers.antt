use Rattle.std.proofs.Common.{is_some, refl, sym}
use Rattle.rational.specs.Worked.{done}
use Rattle.sparse_steps.proofs.Steps.{refused}
use Rattle.cert_check.specs.Sums.{logical_part}
use Rattle.cert_check.proofs.Values.{settles-last, settles-never}
use Rattle.cert_check.proofs.items.endless_row.Goals as goal

pub returns-clause-settled : goal.returns-clause-settled
returns-clause-settled g c =
    settles-last _ (logical_part c.args.deck.now c.args.y.now c.args.i) (λ part. done (is_some part)) c.in_ok-part.part c.is_some.result (is_some c.in_ok-part.part)
    (c.in_ok-part.ensures.settled) refl (sym c.is_some.ensures)

pub returns-in_err-part-clause-settled : goal.returns-in_err-part-clause-settled
returns-in_err-part-clause-settled g c =
    refused _ _ _ (λ x. x) (settles-never _ (logical_part c.args.deck.now c.args.y.now c.args.i) (λ part. done (is_some part)) (c.in_err-part.ensures.settled)) c.from_residual.ensures.1
