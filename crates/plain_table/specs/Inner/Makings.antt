-- The table at the start, before and after its numbers are worked.
use Rattle.std.specs.Prelude.{◌≡◌, ℕ, ◌<◌, List, ◌++◌}
use Rattle.rational.specs.Sum.{at}
use Rattle.lp_run.specs.Instance.{Instance, column_count, row_count}
use Rattle.lp_run.specs.Listing.{Listed, costs_listing, entries_listing, start_entry}
use Rattle.lp_run.specs.State.{start_of}
use Rattle.lp_run.specs.Tableau.{table_cost}
use Rattle.plain_table.specs.Inner.Starts.{AreStartRows, basic_start, start_values_listing}
use Rattle.plain_table.specs.Plain.{IsSized, Plain}

-- a table of the start's state, whose numbers may be any
pub record IsAtStart (inst : Instance) (t : Plain) : Type 0 where
  pub state : t.state ≡ start_of inst
  pub number : t.number ≡ 0
  pub sized : IsSized (row_count inst) (column_count inst) t

-- its numbers are those of the start
pub record IsFilled (inst : Instance) (t : Plain) : Type 0 where
  pub start : IsAtStart inst t
  pub rows_filled : AreStartRows inst t.rows
  pub values_filled : (p : ℕ) → p < row_count inst → at t.values p ≡ basic_start inst p
  pub costs_filled : (j : ℕ) → j < column_count inst → at t.costs j ≡ table_cost inst (start_of inst) (start_entry inst) j

-- what the making lists
abbrev pub making_listing : Instance → List Listed
making_listing inst = entries_listing inst ++ start_values_listing inst ++ costs_listing inst 0 (start_of inst) (start_entry inst)
