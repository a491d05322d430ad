use Rattle.std.proofs.Common.{◌≡◌, ◌+◌, ◌≤◌, drop, length, map, reverse}
use Rattle.rational.specs.Worked.{settle}
use Rattle.factor_model.specs.Eta.{apply, stored, transposed}
use Rattle.row_eta.proofs.EtaFile.apply_back.Given as goal

-- what is left of the transposed operations in reverse order settles as all of them
abbrev pub invariant-loop-k : goal.invariant-loop-k
invariant-loop-k g l = record {
  width : g.A.Arith.width l.arith ≡ g.A.Arith.width l.fn.arith;
  length : length l.v ≡ length l.fn.v;
  left : settle (g.A.Arith.width l.fn.arith) (apply l.v (drop l.k (map transposed (reverse l.self)))) ≡ settle (g.A.Arith.width l.fn.arith) (apply l.fn.v (map transposed (reverse l.self)));
  unfit : g.A.Arith.unfit_count l.arith ≡ g.A.Arith.unfit_count l.fn.arith;
  work : g.A.Arith.work_count l.arith + stored (drop l.k (map transposed (reverse l.self))) ≤ g.A.Arith.work_count l.fn.arith + stored (map transposed (reverse l.self));
}
