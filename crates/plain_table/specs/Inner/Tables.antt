-- What the parts of a table in memory stand for, and what holds of them.
use Rattle.std.specs.Prelude.{◌≡◌, ◌<◌, ◌^◌, length}
use Rattle.plain_table.specs.declared.table.Table.TheInside.{Inside}
use Rattle.plain_table.specs.Inner.Rows.{AreWide}
use Rattle.plain_table.specs.Plain.{IsSized, Plain}

abbrev pub plain_of : Inside → Plain
plain_of a = record { state = a.state; rows = a.rows.items; values = a.values.items; costs = a.costs.items; number = a.number }

-- the spare parts are as large as those of the table, and the numbers of positions and columns are below 2^32
pub record IsSound (a : Inside) : Type 0 where
  pub sized : IsSized (length a.rows.items) (length a.costs.items) (plain_of a)
  pub spare_rows : length a.spare_rows.items ≡ length a.rows.items
  pub spare_wide : AreWide (length a.costs.items) a.spare_rows.items
  pub spare_values : length a.spare_values.items ≡ length a.rows.items
  pub spare_costs : length a.spare_costs.items ≡ length a.costs.items
  pub pivot_row : length a.pivot_row.items ≡ length a.costs.items
  pub support : length a.support.items ≡ length a.costs.items
  pub alpha : length a.alpha.items ≡ length a.rows.items
  pub few_rows : length a.rows.items < 2 ^ 32
  pub few_columns : length a.costs.items < 2 ^ 32
