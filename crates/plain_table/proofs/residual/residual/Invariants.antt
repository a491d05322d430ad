use Rattle.std.proofs.Common.{◌≡◌, ◌+◌, ◌-◌, ◌≤◌}
use Rattle.rational.specs.Sparse.{entry_at}
use Rattle.rational.specs.Worked.{settle}
use Rattle.lp_run.specs.Instance.{start_value, structural, structural_count}
use Rattle.plain_table.specs.Inner.Costs.{factors_from, priced}
use Rattle.plain_table.specs.Inner.Starts.{residual_work}
use Rattle.plain_table.proofs.StartWork.{row_taken}
use Rattle.plain_table.proofs.residual.residual.Given as goal

-- what is left from the structural on settles as all of it
abbrev pub invariant-loop-j : goal.invariant-loop-j
invariant-loop-j g l = record {
  width : g.A.Arith.width l.arith ≡ g.A.Arith.width l.fn.arith;
  unfit : g.A.Arith.unfit_count l.arith ≡ g.A.Arith.unfit_count l.fn.arith;
  work : g.A.Arith.work_count l.arith ≤ g.A.Arith.work_count l.fn.arith + row_taken l.inst l.row l.j;
  left : settle (g.A.Arith.width l.fn.arith) (priced l.rest (factors_from (λ j. entry_at (structural l.inst j).entries l.row)
      (λ j. start_value (structural l.inst j).bounds) l.j (structural_count l.inst - l.j)))
      ≡ settle (g.A.Arith.width l.fn.arith) (residual_work l.inst l.row);
}
