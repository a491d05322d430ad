use Rattle.std.proofs.Common.{◌≡◌, ◌+◌, ◌≤◌}
use Rattle.std.specs.Option.{option_map}
use Rattle.bland_ratio.specs.Leave.{direction_where}
use Rattle.bland_ratio.specs.Inner.Limits.{limit_of}
use Rattle.bland_ratio.proofs.Least.{IsLeast}
use Rattle.bland_ratio.proofs.Ratios.{LimitBefore, SettleBefore}
use Rattle.bland_ratio.proofs.ratio_test.leaving.Given as goal

-- the limits of the positions before this one fit, and the best of them is the least
abbrev pub invariant-loop-p : goal.invariant-loop-p
invariant-loop-p g l = record {
  width : g.A.Arith.width l.arith ≡ g.A.Arith.width l.fn.arith;
  unfit : g.A.Arith.unfit_count l.arith ≡ g.A.Arith.unfit_count l.fn.arith;
  work : g.A.Arith.work_count l.arith ≤ g.A.Arith.work_count l.fn.arith + l.p;
  settled : SettleBefore l.inst l.state l.q (direction_where l.down) l.values l.alpha (g.A.Arith.width l.fn.arith) l.p;
  best : IsLeast (LimitBefore l.inst l.state l.q (direction_where l.down) l.values l.alpha (g.A.Arith.width l.fn.arith) l.p) (option_map (limit_of l.q) l.best);
}
