use Rattle.std.proofs.Common.{refl, sym}
use Rattle.rational.specs.Rational.{eq_ℚ}
use Rattle.rational.specs.Worked.{done}
use Rattle.sparse_steps.proofs.Steps.{refused}
use Rattle.cert_check.specs.Sums.{objective_sum}
use Rattle.cert_check.proofs.Values.{settles-last, settles-never}
use Rattle.cert_check.proofs.items.stated_objective.Goals as goal

pub returns-clause-settled : goal.returns-clause-settled
unfolding eq_ℚ
returns-clause-settled g c =
    settles-last _ (objective_sum c.args.deck.now c.args.x.now) (λ z. done (eq_ℚ z c.args.stated)) c.in_ok-value.value c.eq.result (eq_ℚ c.in_ok-value.value c.args.stated)
    (c.in_ok-value.ensures.settled) refl (sym c.eq.ensures)

pub returns-in_err-value-clause-settled : goal.returns-in_err-value-clause-settled
returns-in_err-value-clause-settled g c =
    refused _ _ _ (λ x. x) (settles-never _ (objective_sum c.args.deck.now c.args.x.now) (λ z. done (eq_ℚ z c.args.stated)) (c.in_err-value.ensures.settled)) c.from_residual.ensures.1
