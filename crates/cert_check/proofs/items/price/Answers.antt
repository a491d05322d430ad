use Rattle.std.proofs.Common.{◌∙◌, ap, ap₂, arith}
use Rattle.lp_model.specs.Deck.{in_sense, row}
use Rattle.rational.specs.Rational.{ℚ}
use Rattle.rational.specs.Sum.{at}
use Rattle.sparse_steps.proofs.Steps.{item_read, refused}
use Rattle.cert_check.specs.Sums.{activity_sum}
use Rattle.cert_check.specs.Inner.Groups.{priced_by}
use Rattle.cert_check.proofs.Values.{settles-like, settles-never, settles-then}
use Rattle.cert_check.proofs.items.price.Goals as goal

pub returns-clause-settled : goal.returns-clause-settled
returns-clause-settled g c =
    let d = c.args.deck.now in
    let item = item_read c.args.y.now c.args.i c.index-y-i.result (omega (arith, c.requires.row, c.requires.rows)) c.index-y-i.is in
    settles-then _ (activity_sum d c.args.x.now c.args.i) (priced_by (row d c.args.i) (in_sense d.sense (at c.args.y.now c.args.i))) _ c.in_ok-activity.activity
    c.allows_price.result c.activity_of.ensures.width c.in_ok-activity.ensures.settled
    (settles-like _ _ _ c.allows_price.result (ap (λ (p : ℚ). priced_by (row d c.args.i) p c.in_ok-activity.activity)
    (c.in_sense-price.ensures ∙ ap₂ in_sense c.sense.ensures item)) c.allows_price.ensures.settled)

pub returns-in_err-activity-clause-settled : goal.returns-in_err-activity-clause-settled
returns-in_err-activity-clause-settled g c =
    let d = c.args.deck.now in
    refused _ _ _ (λ x. x) (settles-never _ (activity_sum d c.args.x.now c.args.i) (priced_by (row d c.args.i) (in_sense d.sense (at c.args.y.now c.args.i))) (c.in_err-activity.ensures.settled)) c.from_residual.ensures.1
