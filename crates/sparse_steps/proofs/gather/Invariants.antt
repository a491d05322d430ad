use Rattle.std.proofs.Common.{◌≡◌, ◌+◌, ◌≤◌, drop}
use Rattle.rational.specs.Lines.{gather}
use Rattle.rational.specs.Worked.{settle}
use Rattle.sparse_steps.proofs.gather.Given as goal

-- what is left of the column settles as all of it
abbrev pub invariant-loop-k : goal.invariant-loop-k
invariant-loop-k g l = record {
  width : g.A.Arith.width l.arith ≡ g.A.Arith.width l.fn.arith;
  left : settle (g.A.Arith.width l.fn.arith) (gather l.skip l.v l.rest (drop l.k l.column.pairs)) ≡ settle (g.A.Arith.width l.fn.arith) (gather l.skip l.v l.fn.r l.column.pairs);
  unfit : g.A.Arith.unfit_count l.arith ≡ g.A.Arith.unfit_count l.fn.arith;
  work : g.A.Arith.work_count l.arith ≤ g.A.Arith.work_count l.fn.arith + l.k;
}
