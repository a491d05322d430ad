-- Names as keys: each row and each column is found by its name.
use Rattle.std.specs.Prelude.{◌≡◌, ℕ, ◌<◌, length, Some, None}
use Rattle.lp_model.specs.Deck.{Deck, row, column}
use Rattle.lp_model.specs.Edit.{find_row, find_column}

-- each row is found by its name, and the objective's name is no row's
pub record HasNamedRows (d : Deck) : Type 0 where
  pub found : (i : ℕ) → i < length d.rows → find_row d (row d i).name ≡ Some i
  pub objective : find_row d d.objective ≡ None

-- each column is found by its name
pub record HasNamedColumns (d : Deck) : Type 0 where
  pub found : (j : ℕ) → j < length d.columns → find_column d (column d j).name ≡ Some j
