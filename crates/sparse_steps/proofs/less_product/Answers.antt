-- A product of 0 changes nothing, and one of two other numbers is worked.
use Rattle.std.proofs.Common.{inl, inr, arith}
use Rattle.rational.proofs.OrderLaws.{one_unless_zero-other}
use Rattle.sparse_steps.proofs.Steps.{apart, refused, skipped, unfit_product, settled_rest}
use Rattle.sparse_steps.proofs.less_product.Goals as goal
use Rattle.sparse_steps.proofs.less_product.Goals.{then-is_zero-via-then-is_zero, then-is_zero-via-else-is_zero+then-is_zero-2}

pub returns-then-is_zero-clause-settled : goal.returns-then-is_zero-clause-settled
returns-then-is_zero-clause-settled g c =
    elim c.then-is_zero.branch [
      | then-is_zero-via-then-is_zero w ↦ skipped _ _ _ _ (inl (c.is_zero.ensures.0 w.if-is_zero.true))
      | then-is_zero-via-else-is_zero+then-is_zero-2 w ↦ skipped _ _ _ _ (inr (w.is_zero-else-is_zero.ensures.0 w.if-is_zero-2.true))
    ]

pub returns-clause-settled : goal.returns-clause-settled
returns-clause-settled g c =
    let left = apart _ _ c.is_zero.ensures c.if-is_zero.false in
    let right = apart _ _ c.is_zero-else-is_zero.ensures c.if-is_zero-2.false in
    settled_rest _ _ c.args.x c.args.a c.args.b c.in_ok-product.product c.sub.result c.mul.ensures.same_width left right c.in_ok-product.ensures.answer c.sub.ensures.answer

pub returns-in_err-product-clause-settled : goal.returns-in_err-product-clause-settled
returns-in_err-product-clause-settled g c =
    let left = apart _ _ c.is_zero.ensures c.if-is_zero.false in
    let right = apart _ _ c.is_zero-else-is_zero.ensures c.if-is_zero-2.false in
    refused _ _ _ (λ x. x) (unfit_product _ c.args.x c.args.a c.args.b left right c.in_err-product.ensures.answer) c.from_residual.ensures.1

pub returns-clause-work : goal.returns-clause-work
returns-clause-work g c = omega (arith, one_unless_zero-other c.args.a (apart _ _ c.is_zero.ensures c.if-is_zero.false))

pub returns-in_err-product-clause-work : goal.returns-in_err-product-clause-work
returns-in_err-product-clause-work g c = omega (arith, one_unless_zero-other c.args.a (apart _ _ c.is_zero.ensures c.if-is_zero.false))
