use Rattle.lp_model.specs.Deck.{row}
use Rattle.sparse_steps.proofs.Steps.{refused}
use Rattle.cert_check.specs.Sums.{activity_sum}
use Rattle.cert_check.specs.Inner.Groups.{within_interval}
use Rattle.cert_check.proofs.Values.{settles-never, settles-then}
use Rattle.cert_check.proofs.items.row.Goals as goal

pub returns-clause-settled : goal.returns-clause-settled
returns-clause-settled g c =
    let d = c.args.deck.now in
    settles-then _ (activity_sum d c.args.x.now c.args.i) (within_interval (row d c.args.i)) _ c.in_ok-activity.activity c.lies_within.result c.activity_of.ensures.width
    c.in_ok-activity.ensures.settled (c.lies_within.ensures.settled)

pub returns-in_err-activity-clause-settled : goal.returns-in_err-activity-clause-settled
returns-in_err-activity-clause-settled g c =
    let d = c.args.deck.now in
    refused _ _ _ (λ x. x) (settles-never _ (activity_sum d c.args.x.now c.args.i) (within_interval (row d c.args.i)) (c.in_err-activity.ensures.settled)) c.from_residual.ensures.1
