use Rattle.std.proofs.Common.{◌≡◌, ◌<◌, get_or, length, ℕ}
use Rattle.rational.specs.Rational.{◌-ℚ◌, ◌*ℚ◌}
use Rattle.rational.specs.Sum.{at}
use Rattle.rational.specs.Worked.{less, placed}
use Rattle.lp_run.specs.Listing.{AllFit}
use Rattle.plain_table.specs.Inner.Lines.{in_column}
use Rattle.plain_table.proofs.line.subtract_packed.Given as goal

abbrev pub invariant-loop-k : goal.invariant-loop-k
invariant-loop-k g l = record {
  width : g.A.Arith.width l.arith ≡ g.A.Arith.width l.fn.arith;
  unfit : g.A.Arith.unfit_count l.arith ≡ g.A.Arith.unfit_count l.fn.arith;
  count : length l.out ≡ length l.fn.out;
  rest : (i : ℕ) → i < l.k → at l.out i ≡ at l.line (get_or l.columns i 0) -ℚ l.factor *ℚ at l.by (get_or l.columns i 0);
  fits : (i : ℕ) → i < l.k → AllFit (g.A.Arith.width l.fn.arith)
      (placed (in_column l.here (get_or l.columns i 0)) (less (at l.line (get_or l.columns i 0)) l.factor (at l.by (get_or l.columns i 0))));
}
