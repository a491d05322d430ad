use Rattle.std.proofs.Common.{◌≡◌, drop, length}
use Rattle.rational.specs.Sparse.{upto}
use Rattle.rational.specs.Worked.{settle}
use Rattle.lp_run.specs.Instance.{column_count, row_count}
use Rattle.ranging.specs.Causes.{less_rests, rests_taken}
use Rattle.ranging.proofs.basic_values.put_left.Given as goal

-- what is left of the columns settles as all of them
abbrev pub invariant-loop-j : goal.invariant-loop-j
invariant-loop-j g l = record {
  width : g.A.Arith.width l.arith ≡ g.A.Arith.width l.fn.arith;
  unfit : g.A.Arith.unfit_count l.arith ≡ g.A.Arith.unfit_count l.fn.arith;
  long : length l.out ≡ row_count l.inst;
  left : settle (g.A.Arith.width l.fn.arith) (less_rests l.inst l.state (drop l.j (upto (column_count l.inst))) l.out) ≡ settle (g.A.Arith.width l.fn.arith) (rests_taken l.inst l.state);
}
