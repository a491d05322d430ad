use Rattle.std.proofs.Common.{◌≡◌, ◌+◌, ◌≤◌, drop}
use Rattle.rational.specs.Lines.{subtract}
use Rattle.rational.specs.Worked.{settle}
use Rattle.sparse_steps.proofs.subtract.Given as goal

-- what is left of the column settles as all of it
abbrev pub invariant-loop-k : goal.invariant-loop-k
invariant-loop-k g l = record {
  width : g.A.Arith.width l.arith ≡ g.A.Arith.width l.fn.arith;
  left : settle (g.A.Arith.width l.fn.arith) (subtract l.skip l.x l.v (drop l.k l.column.pairs)) ≡ settle (g.A.Arith.width l.fn.arith) (subtract l.skip l.x l.fn.v l.column.pairs);
  unfit : g.A.Arith.unfit_count l.arith ≡ g.A.Arith.unfit_count l.fn.arith;
  work : g.A.Arith.work_count l.arith ≤ g.A.Arith.work_count l.fn.arith + l.k;
}
