use Rattle.std.proofs.Common.{◌≡◌, ◌+◌, ◌≤◌, drop, length}
use Rattle.rational.specs.Worked.{settle}
use Rattle.factor_model.specs.Update.{AreApart}
use Rattle.cross_links.specs.Matrix.{IsMatrix}
use Rattle.cross_links.specs.Cells.{cell, HasNoZero}
use Rattle.markowitz_lu.specs.Inner.Lines.{less_line}
use Rattle.markowitz_lu.specs.Inner.Links.{IsAlike}
use Rattle.markowitz_lu.proofs.LineSteps.{AreLinked}
use Rattle.markowitz_lu.proofs.rows.less_line.Given as goal

-- what is left of the row settles as all of it
abbrev pub invariant-loop-p : goal.invariant-loop-p
invariant-loop-p g l = record {
  left : settle (g.A.Arith.width l.fn.arith) (less_line l.i l.k (cell l.cross) (drop l.p-index l.row)) ≡ settle (g.A.Arith.width l.fn.arith) (less_line l.i l.k (cell l.fn.cross) l.row);
  alike : IsAlike l.fn.cross l.cross;
  matrix : IsMatrix l.cross;
  no_zero : HasNoZero l.cross;
  apart : AreApart l.fn.cross.size (drop l.p-index l.row);
  linked : AreLinked l.cross l.i l.index (drop l.p-index l.row);
  width : g.A.Arith.width l.arith ≡ g.A.Arith.width l.fn.arith;
  unfit : g.A.Arith.unfit_count l.arith ≡ g.A.Arith.unfit_count l.fn.arith;
  work : g.A.Arith.work_count l.arith + length (drop l.p-index l.row) ≤ g.A.Arith.work_count l.fn.arith + length l.row;
}
