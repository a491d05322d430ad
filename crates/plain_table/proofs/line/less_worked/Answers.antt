use Rattle.sparse_steps.proofs.Steps.{refused, settled_rest, unfit_product}
use Rattle.plain_table.proofs.line.less_worked.Goals as goal

pub returns-clause-settled : goal.returns-clause-settled
returns-clause-settled g c =
    settled_rest _ _ c.args.x c.args.a c.args.b c.in_ok-product.product c.sub.result c.mul.ensures.same_width c.requires.left c.requires.right c.in_ok-product.ensures.answer c.sub.ensures.answer

pub returns-in_err-product-clause-settled : goal.returns-in_err-product-clause-settled
returns-in_err-product-clause-settled g c =
    refused _ _ _ (λ x. x) (unfit_product _ c.args.x c.args.a c.args.b c.requires.left c.requires.right c.in_err-product.ensures.answer) c.from_residual.ensures.1
