-- The flip is worked from the table, and the parts that are exchanged are those of the table after it.
use Rattle.std.proofs.Common.{◌+◌, ◌<◌, ◌++◌, ◌∷◌, [], length, Ok, refl, sym, ◌∙◌, ap, subst}
use Rattle.std.proofs.lemmas.List.{with_items_is}
use Rattle.lp_model.specs.declared.Entry.TheVariants.{Flip}
use Rattle.plain_table.specs.Answers.{IsNextOf, JudgesStep}
use Rattle.plain_table.specs.Plain.{Plain, Stands}
use Rattle.plain_table.specs.Inner.Tables.{plain_of}
use Rattle.plain_table.proofs.Steps.{flip_column}
use Rattle.plain_table.proofs.Tables.{flip_sized, step_judged_on, table_same}
use Rattle.plain_table.proofs.table.Table.flip.Goals as goal

pub work_flip-requires-clause-next : goal.work_flip-requires-clause-next
work_flip-requires-clause-next g c κs within =
    let a = c.self.inside in
    let same = table_same a.state a.state _ a.rows.items _ a.values.items _ a.costs.items a.number refl c.deref.ensures.value c.deref-2.ensures.value c.deref-3.ensures.value ∙ c.self.view_is in
    subst (λ (t : Plain). IsNextOf c.args.inst.now t (Flip c.args.q)) (sym same) c.requires.next

pub invariant_of-self : goal.invariant_of-self
invariant_of-self g c =
    let a = c.self.inside in
    let sound = c.self.invariant in
    record {
      sized = sound.sized;
      spare_rows = sound.spare_rows;
      spare_wide = sound.spare_wide;
      spare_values = ap (λ xs. length xs) (with_items_is a.spare_values c.work_flip.new.out (c.work_flip.auto.out ∙ c.deref_mut-2.ensures.len)) ∙ c.work_flip.auto.out
          ∙ ap (λ xs. length xs) c.deref_mut-2.ensures.value ∙ sound.spare_values;
      spare_costs = sound.spare_costs;
      pivot_row = sound.pivot_row;
      support = sound.support;
      alpha = ap (λ xs. length xs) (with_items_is a.alpha c.work_flip.new.alpha (c.work_flip.auto.alpha ∙ c.deref_mut.ensures.len)) ∙ c.work_flip.auto.alpha
          ∙ ap (λ xs. length xs) c.deref_mut.ensures.value ∙ sound.alpha;
      few_rows = sound.few_rows;
      few_columns = sound.few_columns;
    }

pub returns-in_err-work_flip-clause-listed : goal.returns-in_err-work_flip-clause-listed
returns-in_err-work_flip-clause-listed g c =
    let a = c.self.inside in
    let same = table_same a.state a.state _ a.rows.items _ a.values.items _ a.costs.items a.number refl c.deref.ensures.value c.deref-2.ensures.value c.deref-3.ensures.value ∙ c.self.view_is in
    step_judged_on _ c.args.inst.now _ c.args.self.now _ c.from_residual.result same c.in_err-work_flip.ensures.listed c.from_residual.ensures.1

pub after-requires : goal.after-requires
after-requires g c =
    let next = subst (λ (t : Plain). IsNextOf c.args.inst.now t (Flip c.args.q)) (sym c.self.view_is) c.requires.next in
    subst (λ n. c.args.q < n) (sym next.1.sized.statuses) (flip_column c.args.inst.now (plain_of c.self.inside) next.0 next.1 c.args.q next.2)

pub invariant_of-self-2 : goal.invariant_of-self-2
invariant_of-self-2 g c =
    let a = c.self.inside in
    let sound = c.self.invariant in
    record {
      sized = flip_sized (length a.rows.items) (length a.costs.items) (a.number + 1) (plain_of a) sound.sized c.args.q c.after.new.self c.swap.new.x.items c.after.ensures
          (ap (λ v. length v.items) c.swap.ensures.x_after ∙ ap (λ xs. length xs) (with_items_is a.spare_values c.work_flip.new.out (c.work_flip.auto.out
          ∙ c.deref_mut-2.ensures.len)) ∙ c.work_flip.auto.out ∙ ap (λ xs. length xs) c.deref_mut-2.ensures.value ∙ sound.spare_values);
      spare_rows = sound.spare_rows;
      spare_wide = sound.spare_wide;
      spare_values = ap (λ v. length v.items) c.swap.ensures.y_after ∙ sound.sized.values;
      spare_costs = sound.spare_costs;
      pivot_row = sound.pivot_row;
      support = sound.support;
      alpha = ap (λ xs. length xs) (with_items_is a.alpha c.work_flip.new.alpha (c.work_flip.auto.alpha ∙ c.deref_mut.ensures.len)) ∙ c.work_flip.auto.alpha
          ∙ ap (λ xs. length xs) c.deref_mut.ensures.value ∙ sound.alpha;
      few_rows = sound.few_rows;
      few_columns = sound.few_columns;
    }

pub returns-clause-stands : goal.returns-clause-stands
returns-clause-stands g c =
    let a = c.self.inside in
    let same = table_same a.state a.state _ a.rows.items _ a.values.items _ a.costs.items a.number refl c.deref.ensures.value c.deref-2.ensures.value c.deref-3.ensures.value ∙ c.self.view_is in
    let values = sym (ap (λ v. v.items) c.swap.ensures.x_after ∙ with_items_is a.spare_values c.work_flip.new.out (c.work_flip.auto.out ∙ c.deref_mut-2.ensures.len)) in
    λ log stands. subst (λ (t : Plain). Stands c.args.inst.now (log ++ Flip c.args.q ∷ []) t)
    (table_same _ c.after.new.self _ a.rows.items _ c.swap.new.x.items _ a.costs.items (a.number + 1) (sym c.after.ensures) c.deref.ensures.value values c.deref-3.ensures.value)
    (c.in_ok-work_flip.ensures.stands log (subst (λ (t : Plain). Stands c.args.inst.now log t) (sym same) stands))

pub returns-clause-listed : goal.returns-clause-listed
returns-clause-listed g c =
    let a = c.self.inside in
    let same = table_same a.state a.state _ a.rows.items _ a.values.items _ a.costs.items a.number refl c.deref.ensures.value c.deref-2.ensures.value c.deref-3.ensures.value ∙ c.self.view_is in
    subst (λ (t : Plain). JudgesStep {A = Unit {0}} (g.A.Arith.width c.args.arith.now) c.args.inst.now t (Ok tt)) same c.in_ok-work_flip.ensures.listed
