use Rattle.std.proofs.Common.{◌≡◌, ◌<◌, ◌≤◌, ℕ, length, true}
use Rattle.rational.specs.Sum.{at}
use Rattle.lp_run.specs.Instance.{column_count}
use Rattle.lp_run.specs.Solution.{reduced}
use Rattle.ranging.specs.Listing.{is_looked_at}
use Rattle.ranging.proofs.factors.reduced_costs.Given as goal

-- the columns below k are priced
abbrev pub invariant-loop-k : goal.invariant-loop-k
invariant-loop-k g l = record {
  width : g.A.Arith.width l.arith ≡ g.A.Arith.width l.fn.arith;
  unfit : g.A.Arith.unfit_count l.fn.arith ≤ g.A.Arith.unfit_count l.arith;
  each : length l.costs.items ≡ column_count l.inst;
  looked : (k : ℕ) → k < l.k → is_looked_at l.inst l.state k ≡ true → at l.costs.items k ≡ reduced l.inst l.state l.prices k;
}
