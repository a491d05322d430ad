use Rattle.std.proofs.Common.{◌≡◌, ◌≤◌, length}
use Rattle.lp_run.specs.Instance.{row_count, structural_count}
use Rattle.ranging.specs.Inner.Found.{HasRisen}
use Rattle.ranging.specs.Inner.Solves.{AreKnown, AreVectors}
use Rattle.ranging.proofs.factors.by_positions.Given as goal

-- the positions below p are taken in
abbrev pub invariant-loop-p : goal.invariant-loop-p
invariant-loop-p g l = record {
  width : g.A.Arith.width l.arith ≡ g.A.Arith.width l.fn.arith;
  unfit : g.A.Arith.unfit_count l.fn.arith ≤ g.A.Arith.unfit_count l.arith;
  vectors : AreVectors l.inst l.vectors;
  limits : AreKnown (g.A.Arith.width l.fn.arith) l.inst l.state l.solved.values.items l.p l.limits;
  each_cost : length l.limits.costs.items ≡ structural_count l.inst;
  each_right : length l.limits.rights.items ≡ row_count l.inst;
  rose : HasRisen (g.A.Arith.unfit_count l.fn.arith) (g.A.Arith.unfit_count l.arith) l.limits;
}
