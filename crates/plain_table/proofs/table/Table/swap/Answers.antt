-- The swap is worked from the table, and the parts that are exchanged are those of the table after it.
use Rattle.std.proofs.Common.{◌+◌, ◌<◌, ◌^◌, ◌++◌, ◌∷◌, [], length, get_or, take, Ok, refl, sym, ◌∙◌, ap, subst, arith}
use Rattle.std.proofs.lemmas.List.{length-take, with_items_is}
use Rattle.std.specs.Vec.{with_items}
use Rattle.lp_model.specs.declared.Entry.TheVariants.{Swap}
use Rattle.plain_table.specs.Answers.{IsNextOf, JudgesStep}
use Rattle.plain_table.specs.Inner.Lines.{IsSupport}
use Rattle.plain_table.specs.Inner.Rows.{AreTaken, AreWide}
use Rattle.plain_table.specs.Inner.Steps.{table_of}
use Rattle.plain_table.specs.Inner.Tables.{plain_of}
use Rattle.plain_table.specs.Plain.{IsSized, Plain, Stands}
use Rattle.plain_table.proofs.Steps.{swap_column, swap_position}
use Rattle.plain_table.proofs.Tables.{step_judged_on, swap_sized, table_same}
use Rattle.plain_table.proofs.table.Table.swap.Goals as goal

pub work_entering-requires-clause-next : goal.work_entering-requires-clause-next
work_entering-requires-clause-next g c κs within =
    let a = c.self.inside in
    let same = table_same a.state a.state _ a.rows.items _ a.values.items _ a.costs.items a.number refl c.deref.ensures.value c.deref-2.ensures.value c.deref-3.ensures.value ∙ c.self.view_is in
    (c.args.end, subst (λ (t : Plain). IsNextOf c.args.inst.now t (Swap c.args.q c.args.position c.args.end)) (sym same) c.requires.next)

pub invariant_of-self : goal.invariant_of-self
invariant_of-self g c =
    let a = c.self.inside in
    let sound = c.self.invariant in
    let worked = c.work_entering.new in
    let rows = with_items_is a.spare_rows worked.out_rows (c.work_entering.auto.out_rows ∙ c.deref_mut-4.ensures.len) in
    let values = with_items_is a.spare_values worked.out_values (c.work_entering.auto.out_values ∙ c.deref_mut-5.ensures.len) in
    let costs = with_items_is a.spare_costs worked.out_costs (c.work_entering.auto.out_costs ∙ c.deref_mut-6.ensures.len) in
    let by = with_items_is a.pivot_row worked.by (c.work_entering.auto.by ∙ c.deref_mut-2.ensures.len) in
    let support = with_items_is a.support worked.support (c.work_entering.auto.support ∙ c.deref_mut-3.ensures.len) in
    let alpha = with_items_is a.alpha worked.alpha (c.work_entering.auto.alpha ∙ c.deref_mut.ensures.len) in
    record {
      sized = sound.sized;
      spare_rows = ap (λ xs. length xs) rows ∙ c.work_entering.auto.out_rows ∙ ap (λ xs. length xs) c.deref_mut-4.ensures.value ∙ sound.spare_rows;
      spare_wide = subst (AreWide (length a.costs.items)) (sym rows) (subst (λ xs. AreWide (length xs) worked.out_rows) c.deref-3.ensures.value c.work_entering.ensures.spare_wide);
      spare_values = ap (λ xs. length xs) values ∙ c.work_entering.auto.out_values ∙ ap (λ xs. length xs) c.deref_mut-5.ensures.value ∙ sound.spare_values;
      spare_costs = ap (λ xs. length xs) costs ∙ c.work_entering.auto.out_costs ∙ ap (λ xs. length xs) c.deref_mut-6.ensures.value ∙ sound.spare_costs;
      pivot_row = ap (λ xs. length xs) by ∙ c.work_entering.auto.by ∙ ap (λ xs. length xs) c.deref_mut-2.ensures.value ∙ sound.pivot_row;
      support = ap (λ xs. length xs) support ∙ c.work_entering.auto.support ∙ ap (λ xs. length xs) c.deref_mut-3.ensures.value ∙ sound.support;
      alpha = ap (λ xs. length xs) alpha ∙ c.work_entering.auto.alpha ∙ ap (λ xs. length xs) c.deref_mut.ensures.value ∙ sound.alpha;
      few_rows = sound.few_rows;
      few_columns = sound.few_columns;
    }

pub returns-in_err-count-clause-listed : goal.returns-in_err-count-clause-listed
returns-in_err-count-clause-listed g c =
    let a = c.self.inside in
    let same = table_same a.state a.state _ a.rows.items _ a.values.items _ a.costs.items a.number refl c.deref.ensures.value c.deref-2.ensures.value c.deref-3.ensures.value ∙ c.self.view_is in
    step_judged_on _ c.args.inst.now _ c.args.self.now _ c.from_residual.result same c.in_err-count.ensures.listed c.from_residual.ensures.1

pub take_all_over-requires-clause-spare : goal.take_all_over-requires-clause-spare
take_all_over-requires-clause-spare g c =
    let a = c.self.inside in
    let rows = c.deref-6.ensures.value ∙ with_items_is a.spare_rows c.work_entering.new.out_rows (c.work_entering.auto.out_rows ∙ c.deref_mut-4.ensures.len) in
    let by = c.deref-4.ensures.value ∙ with_items_is a.pivot_row c.work_entering.new.by (c.work_entering.auto.by ∙ c.deref_mut-2.ensures.len) in
    let width = ap (λ xs. length xs) by ∙ c.work_entering.auto.by ∙ ap (λ xs. length xs) c.deref_mut-2.ensures.value ∙ c.self.invariant.pivot_row in
    subst (λ n. AreWide n c.deref-6.result.now) (ap (λ xs. length xs) c.deref-3.ensures.value ∙ sym width)
    (subst (AreWide (length c.deref-3.result.now)) (sym rows) c.work_entering.ensures.spare_wide)

pub take_all_over-requires-clause-elimination : goal.take_all_over-requires-clause-elimination
take_all_over-requires-clause-elimination g c =
    let a = c.self.inside in
    let next = subst (λ (t : Plain). IsNextOf c.args.inst.now t (Swap c.args.q c.args.position c.args.end)) (sym c.self.view_is) c.requires.next in
    let column = swap_column c.args.inst.now (plain_of a) next.0 next.1 c.args.q c.args.position c.args.end next.2 in
    let by = c.deref-4.ensures.value ∙ with_items_is a.pivot_row c.work_entering.new.by (c.work_entering.auto.by ∙ c.deref_mut-2.ensures.len) in
    let width = ap (λ xs. length xs) by ∙ c.work_entering.auto.by ∙ ap (λ xs. length xs) c.deref_mut-2.ensures.value ∙ c.self.invariant.pivot_row in
    let columns = c.deref-5.ensures.value ∙ with_items_is a.support c.work_entering.new.support (c.work_entering.auto.support ∙ c.deref_mut-3.ensures.len) in
    let many = ap (λ xs. length xs) columns ∙ c.work_entering.auto.support ∙ ap (λ xs. length xs) c.deref_mut-3.ensures.value ∙ c.self.invariant.support in
    record {
      column = subst (λ n. c.args.q < n) (sym next.1.sized.costs ∙ sym width) column;
      support = subst (λ xs. IsSupport c.deref-4.result.now (take c.in_ok-count.count xs)) (sym columns)
          (subst (λ line. IsSupport line (take c.in_ok-count.count c.work_entering.new.support)) (sym by) c.in_ok-count.ensures.support.1);
      within = omega (arith, length-take c.in_ok-count.count c.deref-5.result.now, many, width);
    }

pub after-requires : goal.after-requires
after-requires g c =
    let a = c.self.inside in
    let next = subst (λ (t : Plain). IsNextOf c.args.inst.now t (Swap c.args.q c.args.position c.args.end)) (sym c.self.view_is) c.requires.next in
    let column = swap_column c.args.inst.now (plain_of a) next.0 next.1 c.args.q c.args.position c.args.end next.2 in
    let position = swap_position c.args.inst.now (plain_of a) next.0 next.1 c.args.q c.args.position c.args.end next.2 in (
      subst (λ n. c.args.q < n) (sym next.1.sized.statuses) column,
      subst (λ n. c.args.position < n) (sym next.1.sized.basis) position,
      subst (λ n. get_or a.state.basis c.args.position 0 < n) (sym next.1.sized.statuses) (next.1.sized.within c.args.position position),
    )

pub invariant_of-self-2 : goal.invariant_of-self-2
invariant_of-self-2 g c =
    let a = c.self.inside in
    let sound = c.self.invariant in
    let worked = c.work_entering.new in
    let next = subst (λ (t : Plain). IsNextOf c.args.inst.now t (Swap c.args.q c.args.position c.args.end)) (sym c.self.view_is) c.requires.next in
    let column = swap_column c.args.inst.now (plain_of a) next.0 next.1 c.args.q c.args.position c.args.end next.2 in
    let position = swap_position c.args.inst.now (plain_of a) next.0 next.1 c.args.q c.args.position c.args.end next.2 in
    let by = with_items_is a.pivot_row worked.by (c.work_entering.auto.by ∙ c.deref_mut-2.ensures.len) in
    let by_many = ap (λ xs. length xs) by ∙ c.work_entering.auto.by ∙ ap (λ xs. length xs) c.deref_mut-2.ensures.value ∙ sound.pivot_row in
    let width = ap (λ xs. length xs) c.deref-4.ensures.value ∙ by_many in
    let spare = with_items_is a.spare_rows worked.out_rows (c.work_entering.auto.out_rows ∙ c.deref_mut-4.ensures.len) in
    let spare_many = ap (λ xs. length xs) spare ∙ c.work_entering.auto.out_rows ∙ ap (λ xs. length xs) c.deref_mut-4.ensures.value ∙ sound.spare_rows in
    let support = with_items_is a.support worked.support (c.work_entering.auto.support ∙ c.deref_mut-3.ensures.len) in
    let rows = with_items_is a.rows c.take_all_over.new.rows (c.take_all_over.auto.rows ∙ c.deref_mut-7.ensures.len) in
    let rows_many = ap (λ xs. length xs) rows ∙ c.take_all_over.auto.rows ∙ ap (λ xs. length xs) c.deref_mut-7.ensures.value in
    let alpha = with_items_is a.alpha worked.alpha (c.work_entering.auto.alpha ∙ c.deref_mut.ensures.len) in
    let values_many = ap (λ v. length v.items) c.swap.ensures.x_after ∙ ap (λ xs. length xs) (with_items_is a.spare_values worked.out_values (c.work_entering.auto.out_values
    ∙ c.deref_mut-5.ensures.len))
    ∙ c.work_entering.auto.out_values ∙ ap (λ xs. length xs) c.deref_mut-5.ensures.value ∙ sound.spare_values in
    let costs_many = ap (λ v. length v.items) c.swap-2.ensures.x_after ∙ ap (λ xs. length xs) (with_items_is a.spare_costs worked.out_costs (c.work_entering.auto.out_costs
    ∙ c.deref_mut-6.ensures.len))
    ∙ c.work_entering.auto.out_costs ∙ ap (λ xs. length xs) c.deref_mut-6.ensures.value ∙ sound.spare_costs in
    let m = length a.rows.items in
    let n = length a.costs.items in
    let wide = subst (λ n. AreWide n c.take_all_over.new.rows) width c.take_all_over.ensures.wide in
    let spare_wide = subst (λ n. AreWide n worked.out_rows) (ap (λ xs. length xs) c.deref-3.ensures.value ∙ sym costs_many) c.work_entering.ensures.spare_wide in
    let t = table_of c.after.new.self (with_items a.rows c.take_all_over.new.rows).items c.swap.new.x.items c.swap-2.new.x.items (a.number + 1) in
    let sized = swap_sized m n (a.number + 1) (plain_of a) sound.sized c.args.q c.args.position c.args.end c.after.new.self t.rows c.swap.new.x.items c.swap-2.new.x.items c.after.ensures
    (subst (λ k. c.args.position < k) (sym next.1.sized.rows) position) (subst (λ k. c.args.q < k) (sym next.1.sized.costs) column) rows_many (subst (AreWide n)
    (sym rows) wide) values_many costs_many in
    record {
      sized = subst (λ m. IsSized m (length c.swap-2.new.x.items) t) (sym rows_many) (subst (λ n. IsSized m n t) (sym costs_many) sized);
      spare_rows = spare_many ∙ sym rows_many;
      spare_wide = subst (AreWide (length c.swap-2.new.x.items)) (sym spare) spare_wide;
      spare_values = ap (λ v. length v.items) c.swap.ensures.y_after ∙ sound.sized.values ∙ sym rows_many;
      spare_costs = ap (λ v. length v.items) c.swap-2.ensures.y_after ∙ sym costs_many;
      pivot_row = by_many ∙ sym costs_many;
      support = ap (λ xs. length xs) support ∙ c.work_entering.auto.support ∙ ap (λ xs. length xs) c.deref_mut-3.ensures.value ∙ sound.support ∙ sym costs_many;
      alpha = ap (λ xs. length xs) alpha ∙ c.work_entering.auto.alpha ∙ ap (λ xs. length xs) c.deref_mut.ensures.value ∙ sound.alpha ∙ sym rows_many;
      few_rows = subst (λ k. k < 2 ^ 32) (sym rows_many) sound.few_rows;
      few_columns = subst (λ k. k < 2 ^ 32) (sym costs_many) sound.few_columns;
    }

pub returns-clause-stands : goal.returns-clause-stands
returns-clause-stands g c =
    let a = c.self.inside in
    let worked = c.work_entering.new in
    let same = table_same a.state a.state _ a.rows.items _ a.values.items _ a.costs.items a.number refl c.deref.ensures.value c.deref-2.ensures.value c.deref-3.ensures.value ∙ c.self.view_is in
    let next = subst (λ (t : Plain). IsNextOf c.args.inst.now t (Swap c.args.q c.args.position c.args.end)) (sym same) c.requires.next in
    let by = c.deref-4.ensures.value ∙ with_items_is a.pivot_row worked.by (c.work_entering.auto.by ∙ c.deref_mut-2.ensures.len) in
    let width = ap (λ xs. length xs) by ∙ c.work_entering.auto.by ∙ ap (λ xs. length xs) c.deref_mut-2.ensures.value ∙ c.self.invariant.pivot_row
    ∙ sym (ap (λ xs. length xs) c.deref-3.ensures.value) in
    let columns = c.deref-5.ensures.value ∙ with_items_is a.support worked.support (c.work_entering.auto.support ∙ c.deref_mut-3.ensures.len) in
    let spare = c.deref-6.ensures.value ∙ with_items_is a.spare_rows worked.out_rows (c.work_entering.auto.out_rows ∙ c.deref_mut-4.ensures.len) in
    let old = c.deref_mut-7.ensures.value ∙ sym c.deref.ensures.value in
    let rows = sym (with_items_is a.rows c.take_all_over.new.rows (c.take_all_over.auto.rows ∙ c.deref_mut-7.ensures.len)) in
    let values = sym (ap (λ v. v.items) c.swap.ensures.x_after ∙ with_items_is a.spare_values worked.out_values (c.work_entering.auto.out_values ∙ c.deref_mut-5.ensures.len)) in
    let costs = sym (ap (λ v. v.items) c.swap-2.ensures.x_after ∙ with_items_is a.spare_costs worked.out_costs (c.work_entering.auto.out_costs ∙ c.deref_mut-6.ensures.len)) in
    let many = c.take_all_over.auto.rows ∙ ap (λ xs. length xs) old in
    let broad = subst (λ n. AreWide n c.take_all_over.new.rows) width c.take_all_over.ensures.wide in
    let count = c.in_ok-count.count in
    let p = c.args.position in
    let q = c.args.q in
    let new = c.take_all_over.new.rows in
    let taken = subst (λ line. AreTaken p 0 q line (take count worked.support) c.deref.result.now worked.out_rows new) by
    (subst (λ xs. AreTaken p 0 q c.deref-4.result.now (take count xs) c.deref.result.now worked.out_rows new) columns
    (subst (λ rows. AreTaken p 0 q c.deref-4.result.now (take count c.deref-5.result.now) rows worked.out_rows new) old
    (subst (λ out. AreTaken p 0 q c.deref-4.result.now (take count c.deref-5.result.now) c.deref_mut-7.result.now out new) spare c.take_all_over.ensures.taken))) in
    λ log stands. subst (λ (t : Plain). Stands c.args.inst.now (log ++ Swap c.args.q c.args.position c.args.end ∷ []) t)
    (table_same _ c.after.new.self _ _ _ c.swap.new.x.items _ c.swap-2.new.x.items (a.number + 1) (sym c.after.ensures) rows values costs)
    (c.in_ok-count.ensures.stands c.args.end c.take_all_over.new.rows next.2 many broad taken log (subst (λ (t : Plain). Stands c.args.inst.now log t) (sym same) stands))

pub returns-clause-listed : goal.returns-clause-listed
returns-clause-listed g c =
    let a = c.self.inside in
    let same = table_same a.state a.state _ a.rows.items _ a.values.items _ a.costs.items a.number refl c.deref.ensures.value c.deref-2.ensures.value c.deref-3.ensures.value ∙ c.self.view_is in
    subst (λ (t : Plain). JudgesStep {A = Unit {0}} (g.A.Arith.width c.args.arith.now) c.args.inst.now t (Ok tt)) same c.in_ok-count.ensures.listed
