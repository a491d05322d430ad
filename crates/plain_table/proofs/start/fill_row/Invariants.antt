use Rattle.std.proofs.Common.{◌≡◌, ◌<◌, ℕ, length}
use Rattle.rational.specs.Sum.{at}
use Rattle.rational.specs.Width.{FitsWidth}
use Rattle.lp_run.specs.Instance.{column_count}
use Rattle.lp_run.specs.Listing.{start_entry}
use Rattle.plain_table.proofs.start.fill_row.Given as goal

abbrev pub invariant-loop-j : goal.invariant-loop-j
invariant-loop-j g l = record {
  width : g.A.Arith.width l.arith ≡ g.A.Arith.width l.fn.arith;
  unfit : g.A.Arith.unfit_count l.arith ≡ g.A.Arith.unfit_count l.fn.arith;
  count : length l.out ≡ column_count l.inst;
  filled : (k : ℕ) → k < l.j → at l.out k ≡ start_entry l.inst l.row k;
  fits : (k : ℕ) → k < l.j → FitsWidth (g.A.Arith.width l.fn.arith) (start_entry l.inst l.row k);
}
