-- What the parts of a deck stand for, and what holds of them.
use Rattle.std.specs.Prelude.{◌≡◌, ℕ, ◌^◌, ◌≤◌, List, false, nat_eq, map, length}
use Rattle.std.specs.Cmp.Lexicographic.{pointwise}
use Rattle.std.specs.List.{All}
use Rattle.std.specs.Map.{keys_of, values_of}
use Rattle.deck_model.specs.declared.deck.RowData.{RowData}
use Rattle.deck_model.specs.declared.deck.ColumnData.{ColumnData}
use Rattle.deck_model.specs.declared.deck.Deck.TheInside.{Inside}
use Rattle.lp_model.specs.Deck.{Row, Column, Interval, Deck, IsUncrossed}
use Rattle.rational.specs.Sparse.{IsSparse}
use Rattle.lp_model.specs.Edit.{entry_count}

-- a row, and a column, of its name and its data
abbrev pub row_of : List ℕ × RowData → Row
row_of e = record { name = e.0; kind = e.1.kind; right = e.1.right; range = e.1.range }

abbrev pub bounds_of : ColumnData → Interval
bounds_of c = record { lower = c.lower; upper = c.upper }

abbrev pub column_of : List ℕ × ColumnData → Column
column_of e = record { name = e.0; cost = e.1.cost; entries = e.1.entries.pairs; bounds = bounds_of e.1 }

abbrev pub deck_of : Inside → Deck
deck_of a = record {
  name = a.name;
  objective = a.objective;
  sense = a.sense;
  rows = map row_of a.rows.entries;
  columns = map column_of a.columns.entries;
  constant = a.constant;
}

-- a column over m rows: of that length, with none of its entries 0, and ends that do not cross
pub record FitsRows (m : ℕ) (c : ColumnData) : Type 0 where
  pub long : c.entries.length ≡ m
  pub sparse : IsSparse m 0 c.entries.pairs
  pub uncrossed : IsUncrossed (bounds_of c)

-- the columns are columns over the rows, no row has the objective's name, and the entries and costs that are not 0 are counted
pub record IsSound (a : Inside) : Type 0 where
  pub columns : All (FitsRows (length a.rows.entries)) (values_of a.columns.entries)
  pub unnamed : All (λ name. pointwise nat_eq a.objective name ≡ false) (keys_of a.rows.entries)
  pub few_rows : length a.rows.entries ≤ 65535
  pub few_columns : length a.columns.entries ≤ 2 ^ 31
  pub counted : a.nonzeros ≡ entry_count (deck_of a)
