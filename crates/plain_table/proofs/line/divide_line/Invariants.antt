use Rattle.std.proofs.Common.{◌≡◌, ◌<◌, length, ℕ}
use Rattle.rational.specs.Rational.{◌/ℚ◌}
use Rattle.rational.specs.Sum.{at}
use Rattle.rational.specs.Width.{FitsWidth}
use Rattle.plain_table.proofs.line.divide_line.Given as goal

abbrev pub invariant-loop-j : goal.invariant-loop-j
invariant-loop-j g l = record {
  width : g.A.Arith.width l.arith ≡ g.A.Arith.width l.fn.arith;
  unfit : g.A.Arith.unfit_count l.arith ≡ g.A.Arith.unfit_count l.fn.arith;
  count : length l.out ≡ length l.line;
  divided : (k : ℕ) → k < l.j → at l.out k ≡ at l.line k /ℚ l.pivot;
  fits : (k : ℕ) → k < l.j → FitsWidth (g.A.Arith.width l.fn.arith) (at l.line k /ℚ l.pivot);
}
