use Rattle.std.proofs.Common.{ap}
use Rattle.lp_model.specs.Deck.{Interval, column}
use Rattle.sparse_steps.proofs.Steps.{refused}
use Rattle.cert_check.specs.Sums.{greatest_sum, weighted_sum}
use Rattle.cert_check.proofs.Values.{settles-like, settles-never, settles-then}
use Rattle.cert_check.proofs.parts.column_part.Goals as goal

pub returns-clause-settled : goal.returns-clause-settled
returns-clause-settled g c =
    let d = c.args.deck.now in
    settles-then _ (weighted_sum d c.args.y.now c.args.column) (λ v. greatest_sum v (column d c.args.column).bounds) _ c.in_ok-c.c c.greatest.result c.weighted.ensures.width c.in_ok-c.ensures.settled
    (settles-like _ _ _ c.greatest.result (ap (λ (i : Interval). greatest_sum c.in_ok-c.c i) c.column_ends.ensures) c.greatest.ensures.settled)

pub returns-in_err-c-clause-settled : goal.returns-in_err-c-clause-settled
returns-in_err-c-clause-settled g c =
    let d = c.args.deck.now in
    refused _ _ _ (λ x. x) (settles-never _ (weighted_sum d c.args.y.now c.args.column) (λ v. greatest_sum v (column d c.args.column).bounds) c.in_err-c.ensures.settled) c.from_residual.ensures.1
