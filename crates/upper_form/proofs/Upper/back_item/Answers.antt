use Rattle.std.proofs.Common.{◌≡◌, length, get_or, subst, arith}
use Rattle.factor_model.specs.Upper.{Triangle, IsUpper}
use Rattle.sparse_steps.proofs.Steps.{item_read, refused}
use Rattle.upper_form.proofs.Steps.{column_read, item_none, item_settles, item_stops}
use Rattle.upper_form.proofs.Upper.back_item.Goals as goal

pub returns-then-is_zero-clause-settled : goal.returns-then-is_zero-clause-settled
returns-then-is_zero-clause-settled g c =
    let upper = subst (λ (t : Triangle). IsUpper (length t.rows) t) c.self.view_is c.self.invariant in
    let u = c.args.self.now in
    let cost = item_read c.args.c.now c.args.p c.index-c-p.result (omega (arith, c.requires.position, c.requires.vector)) c.index-c-p.is in
    let stored = column_read u c.args.p c.index.result.now (omega (arith, upper.column_count, c.requires.position))
    (subst (λ (t : Triangle). c.index.result.now ≡ get_or t.columns c.args.p c.index.result.now) c.self.view_is c.index.ensures) in
    let wide = ((g.met.A.Arith g.world.𝓛 g.world.𝓜 g.world.𝓡 ((λ s x. x), (λ x. x), (λ x. x), λ x. x)).width_in_range c.args.arith.now).0 in
    item_none _ u c.args.c.now c.args.z.now c.args.p c.index-c-p.result c.row_of-row.result _ cost c.row_of-row.ensures.value stored c.in_ok-rest.rest
    wide (c.is_zero.ensures.0 c.if-is_zero.true) c.in_ok-rest.ensures.settled

pub returns-clause-settled : goal.returns-clause-settled
returns-clause-settled g c =
    let upper = subst (λ (t : Triangle). IsUpper (length t.rows) t) c.self.view_is c.self.invariant in
    let u = c.args.self.now in
    let cost = item_read c.args.c.now c.args.p c.index-c-p.result (omega (arith, c.requires.position, c.requires.vector)) c.index-c-p.is in
    let stored = column_read u c.args.p c.index.result.now (omega (arith, upper.column_count, c.requires.position))
    (subst (λ (t : Triangle). c.index.result.now ≡ get_or t.columns c.args.p c.index.result.now) c.self.view_is c.index.ensures) in
    item_settles _ u c.args.c.now c.args.z.now c.args.p c.index-c-p.result c.row_of-row.result _ cost c.row_of-row.ensures.value stored _ c.in_ok-rest.rest c.diagonal.result c.div.result
    c.gather.ensures.width c.diagonal.ensures.value c.in_ok-rest.ensures.settled c.div.ensures.answer

pub returns-in_err-rest-clause-settled : goal.returns-in_err-rest-clause-settled
returns-in_err-rest-clause-settled g c =
    let upper = subst (λ (t : Triangle). IsUpper (length t.rows) t) c.self.view_is c.self.invariant in
    let u = c.args.self.now in
    let cost = item_read c.args.c.now c.args.p c.index-c-p.result (omega (arith, c.requires.position, c.requires.vector)) c.index-c-p.is in
    let stored = column_read u c.args.p c.index.result.now (omega (arith, upper.column_count, c.requires.position))
    (subst (λ (t : Triangle). c.index.result.now ≡ get_or t.columns c.args.p c.index.result.now) c.self.view_is c.index.ensures) in
    refused _ _ _ (λ x. x) (item_stops _ u c.args.c.now c.args.z.now c.args.p c.index-c-p.result c.row_of-row.result _ cost c.row_of-row.ensures.value stored c.in_err-rest.ensures.settled) c.from_residual.ensures.1
