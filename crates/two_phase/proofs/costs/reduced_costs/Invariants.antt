use Rattle.std.proofs.Common.{◌≡◌, ◌<◌, ◌≤◌, ℕ, length}
use Rattle.rational.specs.Sum.{at}
use Rattle.lp_run.specs.Instance.{column_count}
use Rattle.lp_run.specs.Solution.{reduced}
use Rattle.two_phase.proofs.costs.reduced_costs.Given as goal

-- the columns below j have their reduced costs
abbrev pub invariant-loop-j : goal.invariant-loop-j
invariant-loop-j g l = record {
  width : g.A.Arith.width l.arith ≡ g.A.Arith.width l.fn.arith;
  unfit : g.A.Arith.unfit_count l.fn.arith ≤ g.A.Arith.unfit_count l.arith;
  each : length l.costs.items ≡ column_count l.inst;
  worked : (k : ℕ) → k < l.j → at l.costs.items k ≡ reduced l.inst l.state l.prices k;
}
