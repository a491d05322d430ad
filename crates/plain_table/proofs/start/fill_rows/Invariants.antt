use Rattle.std.proofs.Common.{◌≡◌, ◌<◌, ℕ, [], length, get_or}
use Rattle.lp_run.specs.Instance.{column_count, row_count}
use Rattle.lp_run.specs.Listing.{AllFit}
use Rattle.plain_table.specs.Inner.Rows.{AreWide}
use Rattle.plain_table.specs.Inner.Starts.{IsStartRow, start_row_listing}
use Rattle.plain_table.proofs.start.fill_rows.Given as goal

abbrev pub invariant-loop-i : goal.invariant-loop-i
invariant-loop-i g l = record {
  width : g.A.Arith.width l.arith ≡ g.A.Arith.width l.fn.arith;
  unfit : g.A.Arith.unfit_count l.arith ≡ g.A.Arith.unfit_count l.fn.arith;
  count : length l.out ≡ row_count l.inst;
  wide : AreWide (column_count l.inst) l.out;
  filled : (k : ℕ) → k < l.i → IsStartRow l.inst k (get_or l.out k []);
  fits : (k : ℕ) → k < l.i → AllFit (g.A.Arith.width l.fn.arith) (start_row_listing l.inst k);
}
