use Rattle.std.proofs.Common.{◌≡◌, ◌<◌, length, ℕ}
use Rattle.rational.specs.Rational.{◌-ℚ◌, ◌*ℚ◌}
use Rattle.rational.specs.Sum.{at}
use Rattle.rational.specs.Worked.{less, placed}
use Rattle.lp_run.specs.Listing.{AllFit}
use Rattle.plain_table.specs.Inner.Lines.{in_column}
use Rattle.plain_table.proofs.line.subtract_line.Given as goal

abbrev pub invariant-loop-j : goal.invariant-loop-j
invariant-loop-j g l = record {
  width : g.A.Arith.width l.arith ≡ g.A.Arith.width l.fn.arith;
  unfit : g.A.Arith.unfit_count l.arith ≡ g.A.Arith.unfit_count l.fn.arith;
  count : length l.out ≡ length l.line;
  rest : (k : ℕ) → k < l.j → at l.out k ≡ at l.line k -ℚ l.factor *ℚ at l.by k;
  fits : (k : ℕ) → k < l.j → AllFit (g.A.Arith.width l.fn.arith) (placed (in_column l.here k) (less (at l.line k) l.factor (at l.by k)));
}
