-- An elimination: which rows it can be worked for, and what is worked.
use Rattle.std.specs.Prelude.{◌≡◌, ℕ, ◌+◌, ◌^◌, ◌<◌, ◌≤◌, List, length, Result, OnOk}
use Rattle.lp_model.specs.declared.Place.{Place}
use Rattle.rational.specs.Rational.{ℚ}
use Rattle.lp_run.specs.Listing.{Judges}
use Rattle.exact_frac.specs.Count.{unfit_after}
use Rattle.plain_table.specs.declared.rows.Elimination.{Elimination}
use Rattle.plain_table.specs.Inner.Lines.{IsSupport}
use Rattle.plain_table.specs.Inner.Rows.{AreEliminated, AreWide, rows_listing}

-- the line has the column, and the support is the line's
pub record CanEliminate (e : Elimination) : Type 0 where
  pub column : e.column < length e.line.now
  pub support : IsSupport e.line.now e.support.now
  pub within : length e.support.now ≤ length e.line.now

-- rows can be worked into spare ones; the first of the rows stands in position `base`
pub record CanWorkRows (e : Elimination) (base : ℕ) (rows out : List (List ℚ)) : Type 0 where
  pub elimination : CanEliminate e
  pub count : length out ≡ length rows
  pub wide : AreWide (length e.line.now) rows
  pub spare : AreWide (length e.line.now) out
  pub few_columns : length e.line.now < 2 ^ 32
  pub few_rows : length rows + base < 2 ^ 32

-- rows are worked one after another, with the width and the count of unfit results of an arithmetic before and after
pub record WorksRows (w w' unfit unfit' : ℕ) (e : Elimination) (base : ℕ) (rows out : List (List ℚ)) (result : Result (Unit {0}) Place) : Type 0 where
  pub answer : Judges w (rows_listing e.number e.position base e.column e.line.now rows) result
  pub eliminated : OnOk result (AreEliminated e.position base e.column e.line.now e.support.now rows out)
  pub spare : AreWide (length e.line.now) out
  pub width : w' ≡ w
  pub unfits : unfit' ≡ unfit_after unfit result
