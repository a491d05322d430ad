use Rattle.std.proofs.Common.{refl, sym}
use Rattle.rational.specs.Rational.{lt_ℚ}
use Rattle.rational.specs.Worked.{done}
use Rattle.sparse_steps.proofs.Steps.{refused}
use Rattle.cert_check.specs.Sums.{right_sum}
use Rattle.cert_check.proofs.Values.{settles-last, settles-never}
use Rattle.cert_check.proofs.items.is_exceeded.Goals as goal

pub returns-clause-settled : goal.returns-clause-settled
returns-clause-settled g c =
    settles-last _ (right_sum c.args.deck.now c.args.y.now) (λ right. done (lt_ℚ c.args.most right)) c.in_ok-right.right c.is_less.result (lt_ℚ c.args.most c.in_ok-right.right)
    (c.in_ok-right.ensures.settled) refl (sym c.is_less.ensures)

pub returns-in_err-right-clause-settled : goal.returns-in_err-right-clause-settled
returns-in_err-right-clause-settled g c =
    refused _ _ _ (λ x. x) (settles-never _ (right_sum c.args.deck.now c.args.y.now) (λ right. done (lt_ℚ c.args.most right)) (c.in_err-right.ensures.settled)) c.from_residual.ensures.1
