use Rattle.std.proofs.Common.{◌≡◌, ◌+◌, ◌<◌, ℕ, [], length, get_or, eqb}
use Rattle.lp_run.specs.Listing.{AllFit}
use Rattle.plain_table.specs.Inner.Rows.{AreWide, EliminatesRow, row_listing}
use Rattle.plain_table.proofs.rows.eliminate_in_turn.Given as goal

abbrev pub invariant-loop-i : goal.invariant-loop-i
invariant-loop-i g l = record {
  width : g.A.Arith.width l.arith ≡ g.A.Arith.width l.fn.arith;
  unfit : g.A.Arith.unfit_count l.arith ≡ g.A.Arith.unfit_count l.fn.arith;
  count : length l.out ≡ length l.rows;
  spare : AreWide (length l.elimination.line.now) l.out;
  fits : (k : ℕ) → k < l.i → AllFit (g.A.Arith.width l.fn.arith) (row_listing l.elimination.number (eqb (k + l.base) l.elimination.position) (k + l.base) l.elimination.column l.elimination.line.now (get_or l.rows k []));
  eliminated : (k : ℕ) → k < l.i → EliminatesRow (eqb (k + l.base) l.elimination.position) l.elimination.column l.elimination.line.now l.elimination.support.now (get_or l.rows k []) (get_or l.out k []);
}
