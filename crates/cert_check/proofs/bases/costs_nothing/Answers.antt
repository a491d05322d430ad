use Rattle.std.proofs.Common.{Bool, true, refl, ◌∙◌, ap}
use Rattle.rational.specs.Rational.{zero_ℚ, eq_ℚ}
use Rattle.rational.specs.Worked.{done, settle}
use Rattle.rational.proofs.OrderLaws.{eq_ℚ-tested}
use Rattle.rational.proofs.Settling.{settle-done}
use Rattle.sparse_steps.proofs.Steps.{refused}
use Rattle.cert_check.specs.Inner.Groups.{sum_by}
use Rattle.cert_check.specs.Items.{zero_where}
use Rattle.cert_check.proofs.Values.{settles-last, settles-never}
use Rattle.cert_check.proofs.bases.costs_nothing.Goals as goal

pub returns-then-not-asked-clause-settled : goal.returns-then-not-asked-clause-settled
returns-then-not-asked-clause-settled g c =
    let sum = sum_by c.args.priced c.args.deck.now c.args.y.now c.args.j in
    ap (λ (t : Bool). settle (g.A.Arith.width c.args.arith.now) (zero_where t sum)) c.if-not-asked.true ∙ settle-done _ true

pub returns-clause-settled : goal.returns-clause-settled
returns-clause-settled g c =
    let sum = sum_by c.args.priced c.args.deck.now c.args.y.now c.args.j in
    ap (λ (t : Bool). settle (g.A.Arith.width c.args.arith.now) (zero_where t sum)) c.if-not-asked.false
    ∙ settles-last _ sum (λ v. done (eq_ℚ v zero_ℚ)) c.in_ok-cost.cost c.is_zero.result (eq_ℚ c.in_ok-cost.cost zero_ℚ) c.in_ok-cost.ensures.settled refl (eq_ℚ-tested c.is_zero.result c.in_ok-cost.cost c.is_zero.ensures)

pub returns-in_err-cost-clause-settled : goal.returns-in_err-cost-clause-settled
returns-in_err-cost-clause-settled g c =
    let sum = sum_by c.args.priced c.args.deck.now c.args.y.now c.args.j in
    refused _ _ _ (λ x. x) (ap (λ (t : Bool). settle (g.A.Arith.width c.args.arith.now) (zero_where t sum)) c.if-not-asked.false
    ∙ settles-never _ sum (λ v. done (eq_ℚ v zero_ℚ)) c.in_err-cost.ensures.settled) c.from_residual.ensures.1
