use Rattle.std.proofs.Common.{◌≡◌, ◌+◌, ◌<◌, ◌≤◌, ℕ, length, refl, sym, ◌∙◌, ap, subst, arith}
use Rattle.std.proofs.lemmas.Grind.{common_steps}
use Rattle.rational.specs.Sum.{at}
use Rattle.lp_run.specs.Instance.{column_count, row_count, structural_count}
use Rattle.lp_run.specs.Solution.{reduced}
use Rattle.plain_table.specs.Next.{prices}
use Rattle.plain_table.specs.Plain.{cell}
use Rattle.ranging.specs.Inner.Found.{AreLimits}
use Rattle.ranging.proofs.Known.{taken_as}
use Rattle.ranging.proofs.Rising.{risen_more}
use Rattle.ranging.proofs.Tables.{table_taken}
use Rattle.ranging.proofs.table.by_rows.Goals as goal

same_end : (p m n : ℕ) → m ≤ p → p ≤ m → m ≡ n → p ≡ n
same_end p m n low high is = omega (arith, low, high, is)

from_zero : (k : ℕ) → 0 + k ≡ k
from_zero k = omega arith

pub loop-p-preserved : goal.loop-p-preserved
loop-p-preserved g c =
    let inst = c.args.inst.now in
    let t = c.args.table.now in
    let p = c.loop-p.p in
    let known = c.loop-p.invariant in
    let w = g.A.Arith.width in
    let stands = c.requires.1 in
    let below : p < row_count inst = omega (arith, c.rows-p-end.ensures.count) in
    let kept : length c.read_entries.new.out ≡ column_count inst = grind (arith, common_steps, c.read_entries.ensures.length, c.as_mut_slice.ensures, known.row) in
    let also : length c.read_entries-in-loop-p.new.out ≡ row_count inst = grind (arith, common_steps, c.read_entries-in-loop-p.ensures.length, c.as_mut_slice-in-loop-p.ensures, known.rates) in
    let row : c.deref.result.now ≡ c.read_entries.new.out = grind (arith, common_steps, c.deref.ensures.value, c.as_mut_slice.ensures, c.read_entries.ensures.length) in
    let rates : c.deref-in-loop-p.result.now ≡ c.read_entries-in-loop-p.new.out =
    grind (arith, common_steps, c.deref-in-loop-p.ensures.value, c.as_mut_slice-in-loop-p.ensures, c.read_entries-in-loop-p.ensures.length) in
    let old = c.loop-p.limits in
    let new = c.take_position.new.limits in
    let value = c.value.result in
    let takes = taken_as _ (w c.args.arith.now) inst _ t.state p value _ t.costs _ c.deref.result.now _ c.deref-in-loop-p.result.now old new known.width c.state-in-loop-p.ensures
    c.costs-in-loop-p.ensures refl refl c.take_position.ensures.taken in
    let is_row : (k : ℕ) → k < column_count inst → at c.deref.result.now k ≡ cell t p k = λ k b.
    ap (λ xs. at xs k) row ∙ c.read_entries.ensures.entries k (subst (λ n. k < n) (sym kept ∙ c.read_entries.ensures.length) b) ∙ ap (cell t p) (from_zero k) in
    let is_rates : (i : ℕ) → i < row_count inst → at c.deref-in-loop-p.result.now i ≡ cell t p (structural_count inst + i) = λ i b.
    ap (λ xs. at xs i) rates ∙ c.read_entries-in-loop-p.ensures.entries i (subst (λ n. i < n) (sym also ∙ c.read_entries-in-loop-p.ensures.length) b)
    ∙ ap (λ n. cell t p (n + i)) c.structurals.ensures.count in
    record {
      width = c.take_position.ensures.width ∙ known.width;
      unfit = omega (arith, known.unfit, c.take_position.ensures.unfit);
      row = grind (arith, common_steps, known.row, c.as_mut_slice.ensures, c.read_entries.ensures.length);
      rates = grind (arith, common_steps, known.rates, c.as_mut_slice-in-loop-p.ensures, c.read_entries-in-loop-p.ensures.length);
      limits = table_taken (w c.args.arith.now) inst c.rows.ensures.well_formed c.requires.0 t stands p below value c.deref.result.now c.deref-in-loop-p.result.now old new
          c.value.ensures is_row is_rates takes known.limits;
      rose = risen_more _ _ _ old new known.unfit c.take_position.ensures.unfit known.rose c.take_position.ensures.rose;
    }

pub returns-clause-worked : goal.returns-clause-worked
returns-clause-worked g c =
    let inst = c.args.inst.now in
    let t = c.args.table.now in
    let stands = c.requires.1 in (
      cell t,
      prices inst t,
      t.values,
      stands.table.columns,
      stands.table.prices,
      stands.table.values,
      subst (λ n. AreLimits (g.A.Arith.width c.args.arith.now) inst t.state (cell t) (reduced inst t.state (prices inst t)) t.values n c.loop-p.limits)
          (same_end c.loop-p.p c.rows-p-end.result (row_count inst) c.loop-p-test.false c.loop-p.auto.p-end c.rows-p-end.ensures.count) c.loop-p.invariant.limits,
    )
