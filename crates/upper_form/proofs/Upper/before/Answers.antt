use Rattle.std.proofs.Common.{length, ap, ◌∙◌, subst, arith}
use Rattle.factor_model.specs.Upper.{Triangle, IsUpper}
use Rattle.factor_model.proofs.UpperShape.{order_length}
use Rattle.upper_form.proofs.Walk.{walk_back, within}
use Rattle.chain_links.specs.Lists.{before}
use Rattle.upper_form.proofs.Upper.before.Goals as goal

pub before-requires : goal.before-requires
before-requires c =
    let upper = subst (λ (t : Triangle). IsUpper (length t.rows) t) c.self.view_is c.self.invariant in
    omega (arith, order_length (length c.args.self.now.rows) c.args.self.now upper, ap (λ (t : Triangle). length t.order) c.self.view_is)

pub returns-clause-rest : goal.returns-clause-rest
returns-clause-rest c =
    let upper = subst (λ (t : Triangle). IsUpper (length t.rows) t) c.self.view_is c.self.invariant in
    walk_back (length c.args.self.now.rows) c.args.self.now upper c.args.p c.requires c.before-2.result (c.before-2.ensures.before ∙ ap (λ (t : Triangle). before c.args.p t.order) c.self.view_is)

pub returns-clause-position : goal.returns-clause-position
returns-clause-position c =
    let upper = subst (λ (t : Triangle). IsUpper (length t.rows) t) c.self.view_is c.self.invariant in
    within c.before-2.result _ _ (ap (λ (t : Triangle). length t.order) c.self.view_is ∙ order_length (length c.args.self.now.rows) c.args.self.now upper) c.before-2.ensures.position
