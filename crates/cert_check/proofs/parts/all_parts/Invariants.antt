use Rattle.std.proofs.Common.{◌≡◌, [], length, map}
use Rattle.rational.specs.Rational.{zero_ℚ}
use Rattle.rational.specs.Sparse.{upto}
use Rattle.rational.specs.Worked.{settle}
use Rattle.cert_check.specs.Sums.{all_parts, column_part, logical_part, parts_sum}
use Rattle.cert_check.proofs.Contributions.{left_parts}
use Rattle.cert_check.proofs.parts.all_parts.Given as goal

-- what is left of the columns, with all logicals, settles as all parts
abbrev pub invariant-loop-j : goal.invariant-loop-j
invariant-loop-j g l = record {
  width : g.A.Arith.width l.arith ≡ g.A.Arith.width l.fn.arith;
  left : settle (g.A.Arith.width l.fn.arith) (parts_sum l.sum (left_parts (column_part l.deck l.y) (length l.deck.columns) (map (logical_part l.deck l.y) (upto (length l.deck.rows))) l.j))
      ≡ settle (g.A.Arith.width l.fn.arith) (parts_sum zero_ℚ (all_parts l.deck l.y));
  unfit : g.A.Arith.unfit_count l.arith ≡ g.A.Arith.unfit_count l.fn.arith;
}

-- and so does what is left of the logicals
abbrev pub invariant-loop-i : goal.invariant-loop-i
invariant-loop-i g l = record {
  width : g.A.Arith.width l.arith ≡ g.A.Arith.width l.fn.arith;
  left : settle (g.A.Arith.width l.fn.arith) (parts_sum l.sum (left_parts (logical_part l.deck l.y) (length l.deck.rows) [] l.i))
      ≡ settle (g.A.Arith.width l.fn.arith) (parts_sum zero_ℚ (all_parts l.deck l.y));
  unfit : g.A.Arith.unfit_count l.arith ≡ g.A.Arith.unfit_count l.fn.arith;
}
