use Rattle.std.proofs.Common.{◌≡◌, ◌+◌, ◌-◌, ◌*◌, ◌≤◌, None, length, replicate}
use Rattle.markowitz_lu.specs.Columns.{matrix_of}
use Rattle.markowitz_lu.proofs.Runs.{IsUnderWay}
use Rattle.markowitz_lu.proofs.factor.Given as goal

-- what is left of the elimination settles as all of it
abbrev pub invariant-pivots : goal.invariant-pivots
invariant-pivots g l = record {
  way : (under : IsUnderWay l.m (matrix_of l.columns) (g.A.Arith.width l.fn.arith) l.stage)
      × (g.A.Arith.work_count l.arith + length under.now.rows * (l.m * l.m) ≤ g.A.Arith.work_count l.fn.arith + l.m * l.m * l.m);
  index : l.buffers.index ≡ replicate l.m None;
  width : g.A.Arith.width l.arith ≡ g.A.Arith.width l.fn.arith;
  unfit : g.A.Arith.unfit_count l.arith ≡ g.A.Arith.unfit_count l.fn.arith;
}

abbrev pub decreases-pivots : goal.decreases-pivots
decreases-pivots g l = l.m - length l.stage.etas
