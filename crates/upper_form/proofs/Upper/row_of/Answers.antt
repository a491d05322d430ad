use Rattle.std.proofs.Common.{◌≡◌, ◌<◌, length, ap, ◌∙◌, subst, arith}
use Rattle.factor_model.specs.Upper.{Triangle, IsUpper, row_of}
use Rattle.std.proofs.lemmas.List.{get_or_default}
use Rattle.factor_model.proofs.UpperShape.{row_below}
use Rattle.upper_form.proofs.Upper.row_of.Goals as goal

pub returns-clause-within : goal.returns-clause-within
returns-clause-within c =
    let upper = subst (λ (t : Triangle). IsUpper (length t.rows) t) c.self.view_is c.self.invariant in
    let u = c.args.self.now in
    let lt : c.args.p < length c.self.inside.rows.items = omega (arith, c.requires, ap (λ (t : Triangle). length t.rows) c.self.view_is) in
    let same : c.index.result.now ≡ row_of u c.args.p =
    c.index.ensures ∙ get_or_default c.self.inside.rows.items c.args.p c.index.result.now 0 lt ∙ ap (λ (t : Triangle). row_of t c.args.p) c.self.view_is in
    omega (arith, row_below (length u.rows) u upper c.args.p c.requires, same)
