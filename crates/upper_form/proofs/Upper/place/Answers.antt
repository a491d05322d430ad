use Rattle.std.proofs.Common.{◌≡◌, ◌<◌, length, get_or, subst, rules, arith}
use Rattle.factor_model.specs.Upper.{Triangle, IsUpper}
use Rattle.factor_model.proofs.UpperShape.{row_below}
use Rattle.sparse_steps.proofs.Steps.{refused}
use Rattle.upper_form.proofs.Steps.{column_read, place_settles, place_stops}
use Rattle.upper_form.proofs.Upper.place.Goals as goal

pub offset_bounds-v-row : goal.offset_bounds-v-row
offset_bounds-v-row g c =
    let upper = subst (λ (t : Triangle). IsUpper (length t.rows) t) c.self.view_is c.self.invariant in
    let u = c.args.self.now in
    let below : c.args.row < length c.subtract.new.v = omega (arith, row_below (length u.rows) u upper c.args.p c.requires.position) in
    search rules

pub bounds-v-row : goal.bounds-v-row
bounds-v-row g c =
    let upper = subst (λ (t : Triangle). IsUpper (length t.rows) t) c.self.view_is c.self.invariant in
    let u = c.args.self.now in
    omega (arith, row_below (length u.rows) u upper c.args.p c.requires.position)

pub returns-clause-settled : goal.returns-clause-settled
returns-clause-settled g c =
    let upper = subst (λ (t : Triangle). IsUpper (length t.rows) t) c.self.view_is c.self.invariant in
    let u = c.args.self.now in
    let stored = column_read u c.args.p c.index.result.now (omega (arith, upper.column_count, c.requires.position))
    (subst (λ (t : Triangle). c.index.result.now ≡ get_or t.columns c.args.p c.index.result.now) c.self.view_is c.index.ensures) in
    place_settles _ u c.args.v.now c.args.p c.args.x c.args.row _ c.requires.row stored c.subtract.new.v c.in_ok-subtract.ensures.settled

pub returns-in_err-subtract-clause-settled : goal.returns-in_err-subtract-clause-settled
returns-in_err-subtract-clause-settled g c =
    let upper = subst (λ (t : Triangle). IsUpper (length t.rows) t) c.self.view_is c.self.invariant in
    let u = c.args.self.now in
    let stored = column_read u c.args.p c.index.result.now (omega (arith, upper.column_count, c.requires.position))
    (subst (λ (t : Triangle). c.index.result.now ≡ get_or t.columns c.args.p c.index.result.now) c.self.view_is c.index.ensures) in
    refused _ _ _ (λ _. _) (place_stops _ u c.args.v.now c.args.p c.args.x c.args.row _ c.requires.row stored c.in_err-subtract.ensures.settled) c.from_residual.ensures.1
