-- Where some product is worked the products are listed, and else the constant alone.
use Rattle.std.proofs.Common.{Some, sym, ◌∙◌, ap}
use Rattle.run_outcome.proofs.Totals.{alone_fits, alone_is, alone_unfit, fails, products_judge}
use Rattle.run_outcome.proofs.total.objective.Goals as goal

pub returns-then-has_product-clause-listed : goal.returns-then-has_product-clause-listed
returns-then-has_product-clause-listed g c =
    products_judge c.args.inst.now c.args.number c.args.x.now _ c.add_up.result (c.has_product.ensures.0 c.if-has_product.true) c.add_up.ensures.listed

pub returns-in-Ok-clause-value : goal.returns-in-Ok-clause-value
returns-in-Ok-clause-value g c =
    c.in-Ok.ensures.answer.0 ∙ c.constant.ensures ∙ alone_is c.args.inst.now c.args.number c.args.x.now (fails _ c.has_product.ensures c.if-has_product.false)

pub returns-in-Ok-clause-listed : goal.returns-in-Ok-clause-listed
returns-in-Ok-clause-listed g c =
    alone_fits c.args.inst.now c.args.number c.args.x.now _ c.constant.result c.constant.ensures (fails _ c.has_product.ensures c.if-has_product.false) c.in-Ok.ensures.answer.1

pub returns-in-Err-clause-listed : goal.returns-in-Err-clause-listed
returns-in-Err-clause-listed g c =
    alone_unfit c.args.inst.now c.args.number c.args.x.now _ c.constant.result c.constant.ensures (fails _ c.has_product.ensures c.if-has_product.false) c.in-Err.ensures.answer
    ∙ ap Some (sym c.total_place.ensures)
