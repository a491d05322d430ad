use Rattle.std.proofs.Common.{◌≡◌, ◌↔◌, ◌+◌, ◌<◌, ◌≤◌, ℕ, true}
use Rattle.lp_model.specs.Deck.{Within}
use Rattle.rational.specs.Rational.{ℚ}
use Rattle.rational.specs.Sum.{at}
use Rattle.lp_run.specs.State.{status_of}
use Rattle.ranging.specs.Inner.Found.{FitAll}
use Rattle.ranging.specs.Inner.Limits.{cost_limit}
use Rattle.ranging.specs.Listing.{cost_quotient, is_looked_at}
use Rattle.ranging.proofs.cost.cost_limits.Given as goal

-- the columns before are taken in
abbrev pub invariant-loop-k : goal.invariant-loop-k
invariant-loop-k g l = record {
  width : g.A.Arith.width l.arith ≡ g.A.Arith.width l.fn.arith;
  unfit : g.A.Arith.unfit_count l.arith ≡ g.A.Arith.unfit_count l.fn.arith;
  work : g.A.Arith.work_count l.arith ≤ g.A.Arith.work_count l.fn.arith + l.k;
  fits : (k : ℕ) → k < l.k → FitAll (g.A.Arith.width l.fn.arith) (cost_quotient l.inst l.state (at l.costs k) (at l.row k) k);
  limits : (u : ℚ) → Within l.limits u ↔ ((k : ℕ) → k < l.k → is_looked_at l.inst l.state k ≡ true → Within (cost_limit (status_of l.state k) (at l.costs k) (at l.row k)) u);
}
