use Rattle.std.proofs.Common.{◌≡◌, ◌+◌, ◌≤◌, drop}
use Rattle.std.specs.List.{sum_by}
use Rattle.rational.specs.Rational.{one_unless_zero}
use Rattle.rational.specs.Sparse.{entry_at, upto}
use Rattle.rational.specs.Sum.{at}
use Rattle.lp_run.specs.Instance.{equations_of, residual, structural, structural_count}
use Rattle.lp_run.specs.Listing.{first_unfit}
use Rattle.instance_model.specs.Inner.Starts.{off_zero, row_products, takings}
use Rattle.instance_model.proofs.Sums.{left_over}
use Rattle.instance_model.proofs.start_sums.residual.Given as goal

-- the work done and the products left are those of the row; the first product left that does not fit is that of all, and what the products left leave is the residual
abbrev pub invariant-loop-k : goal.invariant-loop-k
invariant-loop-k g l = record {
  width : g.A.Arith.width l.arith ≡ g.A.Arith.width l.fn.arith;
  unfit : g.A.Arith.unfit_count l.arith ≡ g.A.Arith.unfit_count l.fn.arith;
  work : g.A.Arith.work_count l.arith + sum_by (λ j. one_unless_zero (entry_at (structural (equations_of l.deck) j).entries l.row)) (drop l.k (off_zero (equations_of l.deck)))
      ≤ g.A.Arith.work_count l.fn.arith + row_products (equations_of l.deck) l.row;
  left : first_unfit (g.A.Arith.width l.fn.arith) (takings (equations_of l.deck) l.row l.rest (drop l.k (off_zero (equations_of l.deck))))
      ≡ first_unfit (g.A.Arith.width l.fn.arith) (takings (equations_of l.deck) l.row (at (equations_of l.deck).right l.row) (upto (structural_count (equations_of l.deck))));
  rest : left_over (equations_of l.deck) l.row l.rest (drop l.k (off_zero (equations_of l.deck))) ≡ residual (equations_of l.deck) l.row;
}
