use Rattle.std.proofs.Common.{◌≡◌, ◌+◌, ◌≤◌, drop, length}
use Rattle.rational.specs.Worked.{settle}
use Rattle.factor_model.specs.Eta.{apply, stored}
use Rattle.row_eta.proofs.EtaFile.apply.Given as goal

-- what is left of the operations settles as all of them
abbrev pub invariant-loop-op : goal.invariant-loop-op
invariant-loop-op g l = record {
  width : g.A.Arith.width l.arith ≡ g.A.Arith.width l.fn.arith;
  length : length l.v ≡ length l.fn.v;
  left : settle (g.A.Arith.width l.fn.arith) (apply l.v (drop l.op-index l.op-items)) ≡ settle (g.A.Arith.width l.fn.arith) (apply l.fn.v l.self);
  unfit : g.A.Arith.unfit_count l.arith ≡ g.A.Arith.unfit_count l.fn.arith;
  work : g.A.Arith.work_count l.arith + stored (drop l.op-index l.op-items) ≤ g.A.Arith.work_count l.fn.arith + stored l.self;
}
