-- The parts of the listing, one after another, and the table that they fill.
use Rattle.std.proofs.Common.{◌≡◌, ℕ, ◌<◌, Some, refl, sym, ◌∙◌, ap, subst}
use Rattle.std.specs.Vec.{with_items}
use Rattle.rational.specs.Sum.{at}
use Rattle.lp_run.specs.Instance.{column_count, cost, row_count}
use Rattle.lp_run.specs.Listing.{AllFit, first_unfit}
use Rattle.lp_run.specs.State.{basic}
use Rattle.plain_table.specs.Inner.Costs.{cost_work, costs_work_listing}
use Rattle.plain_table.specs.Inner.Makings.{IsAtStart}
use Rattle.plain_table.specs.Inner.Rows.{AreWide}
use Rattle.plain_table.specs.Inner.Starts.{AreStartRows, start_values_listing}
use Rattle.plain_table.proofs.Makings.{judged_as, judged_refusal, making_first, making_second, making_third, on_ok, start_costs_are, start_costs_listed}
use Rattle.plain_table.proofs.Memories.{memory_of, refilled, same_length, sound_again, start_again, written}
use Rattle.plain_table.proofs.table.Table.fill.Goals as goal

pub returns-in_err-fill_rows-clause-answer : goal.returns-in_err-fill_rows-clause-answer
returns-in_err-fill_rows-clause-answer g c =
    judged_refusal (g.A.Arith.width c.args.arith.now) _ _ _ (making_first (g.A.Arith.width c.args.arith.now) c.args.inst.now _ c.in_err-fill_rows.ensures.answer) c.from_residual.ensures.1

pub invariant_of-self-in_err-work_start_values : goal.invariant_of-self-in_err-work_start_values
invariant_of-self-in_err-work_start_values g c =
    let inst = c.args.inst.now in
    let a = c.self.inside in
    let start : IsAtStart inst _ = subst (IsAtStart inst) (sym c.self.view_is) c.requires.start in
    let rows_are = written a.rows c.as_mut_slice.result.now c.fill_rows.new.out c.as_mut_slice.ensures.value c.fill_rows.auto.out in
    sound_again inst a c.self.invariant start _
    (refilled inst a (memory_of inst a c.self.invariant start) (with_items a.rows c.fill_rows.new.out) (with_items a.values c.work_start_values.new.out) a.costs a.alpha
    (subst (AreWide (column_count inst)) (sym rows_are) c.fill_rows.ensures.wide) (same_length a.rows _) (same_length a.values _) refl refl)

pub returns-in_err-work_start_values-clause-answer : goal.returns-in_err-work_start_values-clause-answer
returns-in_err-work_start_values-clause-answer g c =
    judged_refusal (g.A.Arith.width c.args.arith.now) _ _ _
    (making_second (g.A.Arith.width c.args.arith.now) c.args.inst.now _ c.in_ok-fill_rows.ensures.answer
    (subst (λ w. first_unfit w (start_values_listing c.args.inst.now) ≡ Some c.in_err-work_start_values.field-0.0) c.fill_rows.ensures.width c.in_err-work_start_values.ensures.answer))
    c.from_residual-in_err-work_start_values.ensures.1

pub work_costs-requires-clause-wide : goal.work_costs-requires-clause-wide
work_costs-requires-clause-wide g c κs within =
    let rows_are = written c.self.inside.rows c.as_mut_slice.result.now c.fill_rows.new.out c.as_mut_slice.ensures.value c.fill_rows.auto.out in
    subst (AreWide (column_count c.args.inst.now)) (sym (c.deref-2.ensures.value ∙ rows_are)) c.fill_rows.ensures.wide

pub invariant_of-self-2 : goal.invariant_of-self-2
invariant_of-self-2 g c =
    let inst = c.args.inst.now in
    let a = c.self.inside in
    let start : IsAtStart inst _ = subst (IsAtStart inst) (sym c.self.view_is) c.requires.start in
    let rows_are = written a.rows c.as_mut_slice.result.now c.fill_rows.new.out c.as_mut_slice.ensures.value c.fill_rows.auto.out in
    sound_again inst a c.self.invariant start _
    (refilled inst a (memory_of inst a c.self.invariant start) (with_items a.rows c.fill_rows.new.out) (with_items a.values c.work_start_values.new.out)
    (with_items a.costs c.work_costs.new.out) (with_items a.alpha c.basic_costs.new.out)
    (subst (AreWide (column_count inst)) (sym rows_are) c.fill_rows.ensures.wide) (same_length a.rows _) (same_length a.values _) (same_length a.costs _) (same_length a.alpha _))

pub returns-clause-answer : goal.returns-clause-answer
returns-clause-answer g c =
    let inst = c.args.inst.now in
    let a = c.self.inside in
    let w = g.A.Arith.width c.args.arith.now in
    let start : IsAtStart inst _ = subst (IsAtStart inst) (sym c.self.view_is) c.requires.start in
    let rows_read = c.deref-2.ensures.value ∙ written a.rows c.as_mut_slice.result.now c.fill_rows.new.out c.as_mut_slice.ensures.value c.fill_rows.auto.out in
    let costs_read = c.deref.ensures.value ∙ written a.alpha c.as_mut_slice-3.result.now c.basic_costs.new.out c.as_mut_slice-3.ensures.value c.basic_costs.auto.out in
    let positions = c.deref-2.ensures.len ∙ a.rows.ok.0 ∙ start.sized.rows in
    let filled = subst (AreStartRows inst) (sym rows_read) c.in_ok-fill_rows.ensures.filled in
    let basics : (p : ℕ) → p < row_count inst → at c.deref.result.now p ≡ cost inst a.state.phase (basic a.state p) =
    λ p b. ap (λ v. at v p) costs_read ∙ c.basic_costs.ensures p (subst (λ k. p < k) (sym start.sized.basis) b) ∙ ap (λ phase. cost inst phase (basic a.state p)) c.phase-phase.ensures in
    let listed =
    ap (λ phase. costs_work_listing inst phase 0 c.deref.result.now c.deref-2.result.now) c.phase-phase.ensures
    ∙ start_costs_listed inst a.state start.state c.deref.result.now c.deref-2.result.now positions filled basics in
    making_third w inst c.work_costs.result c.in_ok-fill_rows.ensures.answer
    (subst (λ w. AllFit w (start_values_listing inst)) c.fill_rows.ensures.width c.in_ok-work_start_values.ensures.answer)
    (judged_as w _ _ _ c.work_costs.result (c.work_start_values.ensures.width ∙ c.fill_rows.ensures.width) listed c.work_costs.ensures.answer)

pub returns-clause-filled : goal.returns-clause-filled
returns-clause-filled g c =
    let inst = c.args.inst.now in
    let a = c.self.inside in
    let start : IsAtStart inst _ = subst (IsAtStart inst) (sym c.self.view_is) c.requires.start in
    let rows_are = written a.rows c.as_mut_slice.result.now c.fill_rows.new.out c.as_mut_slice.ensures.value c.fill_rows.auto.out in
    let values_are = written a.values c.as_mut_slice-2.result.now c.work_start_values.new.out c.as_mut_slice-2.ensures.value c.work_start_values.auto.out in
    let costs_are = written a.costs c.as_mut_slice-4.result.now c.work_costs.new.out c.as_mut_slice-4.ensures.value c.work_costs.auto.out in
    let rows_read = c.deref-2.ensures.value ∙ rows_are in
    let costs_read = c.deref.ensures.value ∙ written a.alpha c.as_mut_slice-3.result.now c.basic_costs.new.out c.as_mut_slice-3.ensures.value c.basic_costs.auto.out in
    let positions = c.deref-2.ensures.len ∙ a.rows.ok.0 ∙ start.sized.rows in
    let filled = subst (AreStartRows inst) (sym rows_read) c.in_ok-fill_rows.ensures.filled in
    let basics : (p : ℕ) → p < row_count inst → at c.deref.result.now p ≡ cost inst a.state.phase (basic a.state p) =
    λ p b. ap (λ v. at v p) costs_read ∙ c.basic_costs.ensures p (subst (λ k. p < k) (sym start.sized.basis) b) ∙ ap (λ phase. cost inst phase (basic a.state p)) c.phase-phase.ensures in
    let memory =
    refilled inst a (memory_of inst a c.self.invariant start) (with_items a.rows c.fill_rows.new.out) (with_items a.values c.work_start_values.new.out)
    (with_items a.costs c.work_costs.new.out) (with_items a.alpha c.basic_costs.new.out)
    (subst (AreWide (column_count inst)) (sym rows_are) c.fill_rows.ensures.wide) (same_length a.rows _) (same_length a.values _) (same_length a.costs _) (same_length a.alpha _) in
    on_ok c.work_costs.result
    (λ costs. record {
      start = start_again inst a c.self.invariant start _ memory;
      rows_filled = subst (AreStartRows inst) (sym rows_are) c.in_ok-fill_rows.ensures.filled;
      values_filled = λ p e. ap (λ v. at v p) values_are ∙ c.in_ok-work_start_values.ensures.values p e;
      costs_filled = λ j e. ap (λ v. at v j) costs_are ∙ costs j e
          ∙ ap (λ phase. (cost_work (cost inst phase j) c.deref.result.now c.deref-2.result.now j).answer) c.phase-phase.ensures
          ∙ start_costs_are inst a.state start.state c.deref.result.now c.deref-2.result.now positions filled basics j e;
    })
    c.work_costs.ensures.costs
