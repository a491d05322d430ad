-- The reduced costs that are worked are those that the turn lists, and the table with them stands.
use Rattle.std.proofs.Common.{◌≡◌, ◌+◌, ◌<◌, ℕ, ◌++◌, ◌∷◌, [], length, Result, Ok, refl, sym, ◌∙◌, ap, subst}
use Rattle.std.proofs.lemmas.List.{with_items_is}
use Rattle.lp_model.specs.declared.Entry.TheVariants.{Turn}
use Rattle.lp_model.specs.declared.Place.{Place}
use Rattle.lp_model.specs.declared.Phase.TheVariants.{Two}
use Rattle.rational.specs.Sum.{at}
use Rattle.lp_run.specs.Instance.{cost, row_count}
use Rattle.lp_run.specs.State.{basic}
use Rattle.plain_table.specs.Answers.{IsNextOf, JudgesStep}
use Rattle.plain_table.specs.Inner.Costs.{costs_work_listing}
use Rattle.plain_table.specs.Inner.Steps.{table_of}
use Rattle.plain_table.specs.Plain.{Plain, Stands}
use Rattle.plain_table.proofs.Steps.{turn_after, turn_judged}
use Rattle.plain_table.proofs.Parts.{judged_on}
use Rattle.plain_table.proofs.Tables.{table_same}
use Rattle.plain_table.proofs.table.Table.turn.Goals as goal

pub returns-in_err-work_costs-clause-listed : goal.returns-in_err-work_costs-clause-listed
returns-in_err-work_costs-clause-listed g c =
    let a = c.self.inside in
    let inst = c.args.inst.now in
    let w = g.A.Arith.width c.args.arith.now in
    let same = table_same a.state a.state c.deref-2.result.now a.rows.items a.values.items a.values.items a.costs.items a.costs.items a.number refl c.deref-2.ensures.value refl refl
    ∙ c.self.view_is in
    let next = subst (λ (t : Plain). IsNextOf inst t Turn) (sym same) c.requires.next in
    let costs_are = c.deref.ensures.value ∙ with_items_is a.alpha c.basic_costs.new.out (c.basic_costs.auto.out ∙ c.deref_mut.ensures.len) in
    let basics : (p : ℕ) → p < row_count inst
    → at c.deref.result.now p ≡ cost inst Two (basic a.state p) = λ p b. ap (λ xs. at xs p) costs_are ∙ c.basic_costs.ensures p (subst (λ n. p < n) (sym next.1.sized.basis) b) in
    let t = table_of a.state c.deref-2.result.now a.values.items a.costs.items a.number in
    subst (λ (t : Plain). JudgesStep w inst t c.from_residual.result) same
    (turn_judged inst t next.0 next.1 next.2 c.deref.result.now basics w w c.from_residual.result refl
    (judged_on w w (costs_work_listing inst Two a.number c.deref.result.now c.deref-2.result.now) _ c.from_residual.result refl c.in_err-work_costs.ensures.answer c.from_residual.ensures.1))

pub returns-clause-stands : goal.returns-clause-stands
returns-clause-stands g c =
    let a = c.self.inside in
    let inst = c.args.inst.now in
    let same = table_same a.state a.state c.deref-2.result.now a.rows.items a.values.items a.values.items a.costs.items a.costs.items a.number refl c.deref-2.ensures.value refl refl
    ∙ c.self.view_is in
    let next = subst (λ (t : Plain). IsNextOf inst t Turn) (sym same) c.requires.next in
    let costs_are = c.deref.ensures.value ∙ with_items_is a.alpha c.basic_costs.new.out (c.basic_costs.auto.out ∙ c.deref_mut.ensures.len) in
    let basics : (p : ℕ) → p < row_count inst
    → at c.deref.result.now p ≡ cost inst Two (basic a.state p) = λ p b. ap (λ xs. at xs p) costs_are ∙ c.basic_costs.ensures p (subst (λ n. p < n) (sym next.1.sized.basis) b) in
    let t = table_of a.state c.deref-2.result.now a.values.items a.costs.items a.number in
    let costs = sym (ap (λ v. v.items) c.swap.ensures.x_after ∙ with_items_is a.spare_costs c.work_costs.new.out (c.work_costs.auto.out ∙ c.deref_mut-2.ensures.len)) in
    let many = c.work_costs.auto.out ∙ ap (λ xs. length xs) c.deref_mut-2.ensures.value ∙ c.self.invariant.spare_costs in
    λ log stands. subst (λ (t : Plain). Stands inst (log ++ Turn ∷ []) t)
    (table_same _ c.after.new.self _ a.rows.items a.values.items a.values.items _ c.swap.new.x.items (a.number + 1) (sym c.after.ensures) c.deref-2.ensures.value refl costs)
    (turn_after inst t log (subst (λ (t : Plain). Stands inst log t)
    (sym same) stands) next.2 c.deref.result.now basics c.rows-positions.ensures.well_formed c.work_costs.new.out many c.in_ok-work_costs.ensures.costs)

pub returns-clause-listed : goal.returns-clause-listed
returns-clause-listed g c =
    let a = c.self.inside in
    let inst = c.args.inst.now in
    let w = g.A.Arith.width c.args.arith.now in
    let same = table_same a.state a.state c.deref-2.result.now a.rows.items a.values.items a.values.items a.costs.items a.costs.items a.number refl c.deref-2.ensures.value refl refl
    ∙ c.self.view_is in
    let next = subst (λ (t : Plain). IsNextOf inst t Turn) (sym same) c.requires.next in
    let costs_are = c.deref.ensures.value ∙ with_items_is a.alpha c.basic_costs.new.out (c.basic_costs.auto.out ∙ c.deref_mut.ensures.len) in
    let basics : (p : ℕ) → p < row_count inst
    → at c.deref.result.now p ≡ cost inst Two (basic a.state p) = λ p b. ap (λ xs. at xs p) costs_are ∙ c.basic_costs.ensures p (subst (λ n. p < n) (sym next.1.sized.basis) b) in
    let t = table_of a.state c.deref-2.result.now a.values.items a.costs.items a.number in
    let accepted : Result (Unit {0}) Place = Ok tt in
    subst (λ (t : Plain). JudgesStep w inst t accepted) same
    (turn_judged inst t next.0 next.1 next.2 c.deref.result.now basics w w accepted refl c.in_ok-work_costs.ensures.answer)
