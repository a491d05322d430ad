use Rattle.std.proofs.Common.{◌≡◌, ℕ, ◌+◌, ◌<◌, ◌≤◌, drop, length, map}
use Rattle.std.specs.List.{sum_by}
use Rattle.rational.specs.Sparse.{upto}
use Rattle.lp_run.specs.Instance.{equations_of}
use Rattle.lp_run.specs.Listing.{AllFit, start_sums}
use Rattle.instance_model.specs.Inner.Starts.{row_products, row_start}
use Rattle.instance_model.proofs.making.row_starts.Given as goal

-- the rows before fit
abbrev pub invariant-loop-row : goal.invariant-loop-row
invariant-loop-row g l = record {
  width : g.A.Arith.width l.arith ≡ g.A.Arith.width l.fn.arith;
  unfit : g.A.Arith.unfit_count l.arith ≡ g.A.Arith.unfit_count l.fn.arith;
  work : g.A.Arith.work_count l.arith + sum_by (row_products (equations_of l.deck)) (drop l.row (upto (length l.deck.rows)))
      ≤ g.A.Arith.work_count l.fn.arith + sum_by (row_products (equations_of l.deck)) (upto (length l.deck.rows));
  starts : l.starts.items ≡ map (row_start l.deck) (upto l.row);
  fits : (k : ℕ) → k < l.row → AllFit (g.A.Arith.width l.fn.arith) (start_sums (equations_of l.deck) k);
}
