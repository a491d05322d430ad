use Rattle.std.proofs.Common.{◌≡◌, ◌<◌, ℕ, Some, None, length}
use Rattle.lp_model.specs.declared.Kind.TheVariants as kind
use Rattle.rational.specs.Sum.{at}
use Rattle.rational.specs.Worked.{placed}
use Rattle.lp_run.specs.Instance.{column_count, cost}
use Rattle.lp_run.specs.Listing.{AllFit, place}
use Rattle.plain_table.specs.Inner.Costs.{cost_work}
use Rattle.plain_table.proofs.costs.work_costs.Given as goal

abbrev pub invariant-loop-j : goal.invariant-loop-j
invariant-loop-j g l = record {
  width : g.A.Arith.width l.arith ≡ g.A.Arith.width l.fn.arith;
  unfit : g.A.Arith.unfit_count l.arith ≡ g.A.Arith.unfit_count l.fn.arith;
  count : length l.out ≡ column_count l.inst;
  costs : (k : ℕ) → k < l.j → at l.out k ≡ (cost_work (cost l.inst l.phase k) l.basic_costs l.rows k).answer;
  fits : (k : ℕ) → k < l.j → AllFit (g.A.Arith.width l.fn.arith) (placed (place l.number kind.Cost None (Some k)) (cost_work (cost l.inst l.phase k) l.basic_costs l.rows k));
}
