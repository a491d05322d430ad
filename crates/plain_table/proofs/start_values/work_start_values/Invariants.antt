use Rattle.std.proofs.Common.{◌≡◌, ◌+◌, ◌<◌, ◌≤◌, ℕ, length}
use Rattle.rational.specs.Sum.{at}
use Rattle.rational.specs.Width.{FitsWidth}
use Rattle.lp_run.specs.Instance.{row_count}
use Rattle.bland_ratio.specs.Entries.{stored_entries}
use Rattle.plain_table.proofs.StartWork.{rows_behind}
use Rattle.plain_table.specs.Inner.Starts.{basic_start}
use Rattle.plain_table.proofs.start_values.work_start_values.Given as goal

abbrev pub invariant-loop-p : goal.invariant-loop-p
invariant-loop-p g l = record {
  width : g.A.Arith.width l.arith ≡ g.A.Arith.width l.fn.arith;
  unfit : g.A.Arith.unfit_count l.arith ≡ g.A.Arith.unfit_count l.fn.arith;
  work : g.A.Arith.work_count l.arith + rows_behind l.inst l.p ≤ g.A.Arith.work_count l.fn.arith + stored_entries l.inst;
  count : length l.out ≡ row_count l.inst;
  values : (k : ℕ) → k < l.p → at l.out k ≡ basic_start l.inst k;
  fits : (k : ℕ) → k < l.p → FitsWidth (g.A.Arith.width l.fn.arith) (basic_start l.inst k);
}
