use Rattle.std.proofs.Common.{refl, sym, ◌∙◌, ap₂}
use Rattle.std.specs.Option.{is_none}
use Rattle.lp_model.specs.Deck.{activity_interval, row}
use Rattle.rational.specs.Worked.{done}
use Rattle.sparse_steps.proofs.Steps.{refused}
use Rattle.cert_check.specs.Items.{allows}
use Rattle.cert_check.specs.Sums.{activity_sum}
use Rattle.cert_check.proofs.Values.{settles-last, settles-never}
use Rattle.cert_check.proofs.items.ray_row.Goals as goal

pub returns-clause-settled : goal.returns-clause-settled
returns-clause-settled g c =
    let d = c.args.deck.now in
    settles-last _ (activity_sum d c.args.ray.now c.args.i) (λ a. done (allows a (is_none (activity_interval (row d c.args.i)).upper)
    (is_none (activity_interval (row d c.args.i)).lower))) c.in_ok-activity.activity c.allows.result
    (allows c.in_ok-activity.activity (is_none (activity_interval (row d c.args.i)).upper) (is_none (activity_interval (row d c.args.i)).lower))
    (c.in_ok-activity.ensures.settled) refl (sym (c.allows.ensures ∙ ap₂ (allows c.in_ok-activity.activity) c.is_open_above.ensures c.is_open_below.ensures))

pub returns-in_err-activity-clause-settled : goal.returns-in_err-activity-clause-settled
returns-in_err-activity-clause-settled g c =
    let d = c.args.deck.now in
    refused _ _ _ (λ x. x) (settles-never _ (activity_sum d c.args.ray.now c.args.i) (λ a. done (allows a (is_none (activity_interval (row d c.args.i)).upper)
    (is_none (activity_interval (row d c.args.i)).lower))) (c.in_err-activity.ensures.settled)) c.from_residual.ensures.1
