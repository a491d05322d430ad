-- Each part has its length.
use Rattle.std.proofs.Common.{◌∙◌, refl, sym, subst, arith}
use Rattle.plain_table.specs.Inner.Rows.{AreWide}
use Rattle.plain_table.proofs.Memories.{HasMemory, is_sound, starts}
use Rattle.plain_table.proofs.table.Table.blank.Goals as goal

pub invariant_of-result : goal.invariant_of-result
invariant_of-result c =
    let m = c.rows-rows.ensures.count in
    let n = c.columns-columns.ensures.count in
    let memory : HasMemory c.args.inst.now _ = record {
      state = c.in_ok-start.ensures;
      number = refl;
      rows = c.in_ok-zero_rows.ensures.count ∙ m;
      wide = subst (λ k. AreWide k c.in_ok-zero_rows.field-0.items) n c.in_ok-zero_rows.ensures.wide;
      values = c.in_ok-zeros.ensures ∙ m;
      costs = c.in_ok-zeros-2.ensures ∙ n;
      spare_rows = c.in_ok-zero_rows-2.ensures.count ∙ m;
      spare_wide = subst (λ k. AreWide k c.in_ok-zero_rows-2.field-0.items) n c.in_ok-zero_rows-2.ensures.wide;
      spare_values = c.in_ok-zeros-3.ensures ∙ m;
      spare_costs = c.in_ok-zeros-4.ensures ∙ n;
      pivot_row = c.in_ok-zeros-5.ensures ∙ n;
      support = sym c.in_ok-vec.field-0.ok.0 ∙ c.in_ok-vec.ensures.len ∙ n;
      alpha = c.in_ok-zeros-6.ensures ∙ m;
    } in
    is_sound c.args.inst.now _ memory (omega (arith, m, c.rows-rows.ensures.few)) (omega (arith, n, c.columns-columns.ensures.few))
    (starts c.args.inst.now _ c.rows-rows.ensures.well_formed memory.state memory.number memory.rows memory.wide memory.values memory.costs).sized

pub returns-clause-start : goal.returns-clause-start
returns-clause-start c =
    let m = c.rows-rows.ensures.count in
    let n = c.columns-columns.ensures.count in
    starts c.args.inst.now _ c.rows-rows.ensures.well_formed c.in_ok-start.ensures refl (c.in_ok-zero_rows.ensures.count ∙ m)
    (subst (λ k. AreWide k c.in_ok-zero_rows.field-0.items) n c.in_ok-zero_rows.ensures.wide) (c.in_ok-zeros.ensures ∙ m) (c.in_ok-zeros-2.ensures ∙ n)
