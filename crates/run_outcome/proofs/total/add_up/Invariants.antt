use Rattle.std.proofs.Common.{◌≡◌, ◌+◌, ◌-◌, ◌≤◌}
use Rattle.rational.specs.Rational.{◌+ℚ◌, ◌*ℚ◌}
use Rattle.rational.specs.Sum.{at, sum_ℚ}
use Rattle.lp_run.specs.Instance.{structural, structural_count}
use Rattle.lp_run.specs.Listing.{added, first_unfit}
use Rattle.bland_ratio.specs.Entries.{nonzero_costs}
use Rattle.run_outcome.specs.Inner.Parts.{terms}
use Rattle.run_outcome.proofs.Totals.{costs_from}
use Rattle.run_outcome.proofs.total.add_up.Given as goal

-- what is left from the structural on decides, and the total is the sum up to it
abbrev pub invariant-loop-j : goal.invariant-loop-j
invariant-loop-j g l = record {
  width : g.A.Arith.width l.arith ≡ g.A.Arith.width l.fn.arith;
  unfit : g.A.Arith.unfit_count l.arith ≡ g.A.Arith.unfit_count l.fn.arith;
  work : g.A.Arith.work_count l.arith + costs_from l.inst l.j ≤ g.A.Arith.work_count l.fn.arith + nonzero_costs l.inst;
  left : first_unfit (g.A.Arith.width l.fn.arith) (added l.inst.constant (terms l.inst l.number l.x 0 (structural_count l.inst)))
      ≡ first_unfit (g.A.Arith.width l.fn.arith) (added l.total (terms l.inst l.number l.x l.j (structural_count l.inst - l.j)));
  sum : l.total ≡ l.inst.constant +ℚ sum_ℚ l.j (λ k. (structural l.inst k).cost *ℚ at l.x k);
}
