use Rattle.std.proofs.Common.{refl, sym}
use Rattle.lp_model.specs.Deck.{row}
use Rattle.rational.specs.Worked.{done}
use Rattle.sparse_steps.proofs.Steps.{refused}
use Rattle.cert_check.specs.Items.{is_within}
use Rattle.cert_check.specs.Sums.{interval_sum}
use Rattle.cert_check.proofs.Values.{settles-last, settles-never}
use Rattle.cert_check.proofs.items.lies_within.Goals as goal

pub returns-clause-settled : goal.returns-clause-settled
returns-clause-settled g c =
    settles-last _ (interval_sum (row c.args.deck.now c.args.i)) (λ ends. done (is_within ends c.args.activity)) c.in_ok-ends.ends c.contains.result
    (is_within c.in_ok-ends.ends c.args.activity) (c.in_ok-ends.ensures.settled) refl (sym c.contains.ensures)

pub returns-in_err-ends-clause-settled : goal.returns-in_err-ends-clause-settled
returns-in_err-ends-clause-settled g c =
    refused _ _ _ (λ x. x) (settles-never _ (interval_sum (row c.args.deck.now c.args.i)) (λ ends. done (is_within ends c.args.activity)) (c.in_err-ends.ensures.settled)) c.from_residual.ensures.1
