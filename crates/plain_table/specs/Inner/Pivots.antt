-- What is listed where a column takes a position, and what becomes of the parts of the table.
use Rattle.std.specs.Prelude.{ℕ, List, [], ◌++◌, map, get_or, Some, None}
use Rattle.lp_model.specs.declared.Kind.TheVariants as kind
use Rattle.rational.specs.Rational.{ℚ, ◌/ℚ◌}
use Rattle.rational.specs.Sum.{at}
use Rattle.lp_run.specs.Listing.{Listed, place}
use Rattle.plain_table.specs.declared.pivot.Pivot.{Pivot}
use Rattle.plain_table.specs.Inner.Lines.{AreLess, less_listing, quotients_listing}
use Rattle.plain_table.specs.Inner.Rows.{AreEliminated, rows_listing}
use Rattle.plain_table.specs.Inner.Values.{AreMoved, values_listing}

-- a line divided by its pivot
abbrev pub quotients : List ℚ → ℚ → List ℚ
quotients line pivot = map (λ x. x /ℚ pivot) line

-- the pivot row after the pivot
abbrev pub pivot_line : Pivot → List (List ℚ) → List ℚ
pivot_line v rows = quotients (get_or rows v.position []) (at (get_or rows v.position []) v.column)

-- the pivot row as it is divided
abbrev pub line_listing : Pivot → List (List ℚ) → List Listed
line_listing v rows = quotients_listing (place v.number kind.Entry (Some v.position) None) (get_or rows v.position []) (at (get_or rows v.position []) v.column)

abbrev pub swap_listing : Pivot → List ℚ → List (List ℚ) → List ℚ → List ℚ → List Listed
swap_listing v alpha rows values costs =
    line_listing v rows
    ++ rows_listing v.number v.position 0 v.column (pivot_line v rows) rows
    ++ values_listing v.number v.position v.down v.rest v.ratio values alpha
    ++ less_listing (place v.number kind.Cost None None) costs (at costs v.column) (pivot_line v rows)

-- the rows that are worked anew, the basic values and the reduced costs after the pivot
pub record ArePivoted (v : Pivot) (alpha : List ℚ) (rows : List (List ℚ)) (values costs : List ℚ) (columns : List ℕ) (out_rows : List (List ℚ)) (out_values out_costs : List ℚ) : Type 0 where
  pub rows_after : AreEliminated v.position 0 v.column (pivot_line v rows) columns rows out_rows
  pub values_after : AreMoved v.position v.down v.rest v.ratio values alpha out_values
  pub costs_after : AreLess costs (at costs v.column) (pivot_line v rows) out_costs
