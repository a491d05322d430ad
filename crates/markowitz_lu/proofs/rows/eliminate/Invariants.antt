use Rattle.std.proofs.Common.{◌≡◌, ◌+◌, ◌*◌, ◌≤◌, [], None, drop, length, replicate}
use Rattle.rational.specs.Worked.{settle}
use Rattle.factor_model.specs.Update.{AreApart}
use Rattle.cross_links.specs.Matrix.{IsMatrix}
use Rattle.cross_links.specs.Cells.{cell, HasNoZero}
use Rattle.markowitz_lu.specs.Inner.Lines.{less_lines}
use Rattle.markowitz_lu.specs.Inner.Links.{IsAlike}
use Rattle.markowitz_lu.proofs.LineSteps.{AreAbsent}
use Rattle.markowitz_lu.proofs.rows.eliminate.Given as goal

-- what is left of the column settles as all of it
abbrev pub invariant-loop-i : goal.invariant-loop-i
invariant-loop-i g l = record {
  left : settle (g.A.Arith.width l.fn.arith) (less_lines l.pivot l.row (cell l.cross) l.multipliers.pairs (drop l.i-index l.column))
      ≡ settle (g.A.Arith.width l.fn.arith) (less_lines l.pivot l.row (cell l.fn.cross) [] l.column);
  len : l.multipliers.length ≡ l.m;
  alike : IsAlike l.fn.cross l.cross;
  matrix : IsMatrix l.cross;
  no_zero : HasNoZero l.cross;
  apart : AreApart l.m (drop l.i-index l.column);
  absent : AreAbsent l.multipliers.pairs (drop l.i-index l.column);
  index : l.index ≡ replicate l.m None;
  width : g.A.Arith.width l.arith ≡ g.A.Arith.width l.fn.arith;
  unfit : g.A.Arith.unfit_count l.arith ≡ g.A.Arith.unfit_count l.fn.arith;
  work : g.A.Arith.work_count l.arith + (1 + length l.row) * length (drop l.i-index l.column) ≤ g.A.Arith.work_count l.fn.arith + (1 + length l.row) * length l.column;
}
