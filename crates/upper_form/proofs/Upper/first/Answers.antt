use Rattle.std.proofs.Common.{length, ap, ◌∙◌, subst}
use Rattle.factor_model.specs.Upper.{Triangle, IsUpper}
use Rattle.std.proofs.Common.{slice_get}
use Rattle.factor_model.proofs.UpperShape.{order_length}
use Rattle.upper_form.proofs.Walk.{from_first, within}
use Rattle.upper_form.proofs.Upper.first.Goals as goal

pub returns-clause-rest : goal.returns-clause-rest
returns-clause-rest c =
    from_first c.args.self.now.order c.first.result (c.first.ensures.first ∙ ap (λ (t : Triangle). slice_get t.order 0) c.self.view_is)

pub returns-clause-position : goal.returns-clause-position
returns-clause-position c =
    let upper = subst (λ (t : Triangle). IsUpper (length t.rows) t) c.self.view_is c.self.invariant in
    within c.first.result _ _ (ap (λ (t : Triangle). length t.order) c.self.view_is ∙ order_length (length c.args.self.now.rows) c.args.self.now upper) c.first.ensures.position
