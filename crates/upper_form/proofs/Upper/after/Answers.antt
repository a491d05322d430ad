use Rattle.std.proofs.Common.{length, ap, ◌∙◌, subst, arith}
use Rattle.factor_model.specs.Upper.{Triangle, IsUpper}
use Rattle.factor_model.proofs.UpperShape.{order_length}
use Rattle.upper_form.proofs.Walk.{walk_on, within}
use Rattle.chain_links.specs.Lists.{after}
use Rattle.upper_form.proofs.Upper.after.Goals as goal

pub after-requires : goal.after-requires
after-requires c =
    let upper = subst (λ (t : Triangle). IsUpper (length t.rows) t) c.self.view_is c.self.invariant in
    omega (arith, order_length (length c.args.self.now.rows) c.args.self.now upper, ap (λ (t : Triangle). length t.order) c.self.view_is)

pub returns-clause-rest : goal.returns-clause-rest
returns-clause-rest c =
    let upper = subst (λ (t : Triangle). IsUpper (length t.rows) t) c.self.view_is c.self.invariant in
    walk_on (length c.args.self.now.rows) c.args.self.now upper c.args.p c.requires c.after.result (c.after.ensures.after ∙ ap (λ (t : Triangle). after c.args.p t.order) c.self.view_is)

pub returns-clause-position : goal.returns-clause-position
returns-clause-position c =
    let upper = subst (λ (t : Triangle). IsUpper (length t.rows) t) c.self.view_is c.self.invariant in
    within c.after.result _ _ (ap (λ (t : Triangle). length t.order) c.self.view_is ∙ order_length (length c.args.self.now.rows) c.args.self.now upper) c.after.ensures.position
