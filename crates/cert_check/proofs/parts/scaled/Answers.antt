use Rattle.std.proofs.Common.{None, Option, Some, refl, ◌∙◌, ap}
use Rattle.rational.specs.Rational.{ℚ}
use Rattle.rational.specs.Worked.{done, settle}
use Rattle.rational.proofs.Settling.{settle-done}
use Rattle.sparse_steps.proofs.Steps.{refused}
use Rattle.cert_check.specs.Sums.{product}
use Rattle.cert_check.specs.Inner.Groups.{scaled}
use Rattle.cert_check.proofs.Values.{settles-last, settles-never}
use Rattle.cert_check.proofs.parts.scaled.Goals as goal

pub returns-in-None-clause-settled : goal.returns-in-None-clause-settled
returns-in-None-clause-settled g c = ap (λ (o : Option ℚ). settle (g.A.Arith.width c.args.arith.now) (scaled c.args.c o)) c.in-None.is ∙ settle-done _ None

pub returns-in_ok-product-in-Some-clause-settled : goal.returns-in_ok-product-in-Some-clause-settled
returns-in_ok-product-in-Some-clause-settled g c =
    ap (λ (o : Option ℚ). settle (g.A.Arith.width c.args.arith.now) (scaled c.args.c o)) c.in-Some.is
    ∙ settles-last _ (product c.args.c c.in-Some.end) (λ p. done (Some p)) c.in_ok-product-in-Some.field-0 (Some c.in_ok-product-in-Some.field-0) (Some c.in_ok-product-in-Some.field-0) c.in_ok-product-in-Some.ensures.settled refl refl

pub returns-in_err-product-in-Some-clause-settled : goal.returns-in_err-product-in-Some-clause-settled
returns-in_err-product-in-Some-clause-settled g c =
    refused _ _ _ (λ x. x) (ap (λ (o : Option ℚ). settle (g.A.Arith.width c.args.arith.now) (scaled c.args.c o)) c.in-Some.is
    ∙ settles-never _ (product c.args.c c.in-Some.end) (λ p. done (Some p)) c.in_err-product-in-Some.ensures.settled) c.from_residual.ensures.1
