use Rattle.std.proofs.Common.{◌≡◌, ◌≤◌, length}
use Rattle.lp_run.specs.Instance.{column_count, row_count}
use Rattle.lp_run.specs.Solution.{reduced}
use Rattle.plain_table.specs.Next.{prices}
use Rattle.plain_table.specs.Plain.{cell}
use Rattle.ranging.specs.Inner.Found.{AreLimits, HasRisen}
use Rattle.ranging.proofs.table.by_rows.Given as goal

-- the positions below p are taken in
abbrev pub invariant-loop-p : goal.invariant-loop-p
invariant-loop-p g l = record {
  width : g.A.Arith.width l.arith ≡ g.A.Arith.width l.fn.arith;
  unfit : g.A.Arith.unfit_count l.fn.arith ≤ g.A.Arith.unfit_count l.arith;
  row : length l.row.items ≡ column_count l.inst;
  rates : length l.rates.items ≡ row_count l.inst;
  limits : AreLimits (g.A.Arith.width l.fn.arith) l.inst l.table.state (cell l.table) (reduced l.inst l.table.state (prices l.inst l.table)) l.table.values l.p l.limits;
  rose : HasRisen (g.A.Arith.unfit_count l.fn.arith) (g.A.Arith.unfit_count l.arith) l.limits;
}
