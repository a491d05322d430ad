-- The plain table of a state: the rows by position, the basic values by position and the reduced costs by column, and the number of entries before the state.
use Rattle.std.specs.Prelude.{◌≡◌, ℕ, ◌<◌, List, [], length, get_or}
use Rattle.rational.specs.Rational.{ℚ}
use Rattle.rational.specs.Sum.{at}
use Rattle.lp_model.specs.declared.Entry.{Entry}
use Rattle.lp_run.specs.Instance.{Instance, column_count, row_count}
use Rattle.lp_run.specs.State.{State, basic}
use Rattle.table_laws.specs.Stands.{StandsAt}

pub record Plain : Type 0 where
  pub state : State
  pub rows : List (List ℚ)
  pub values : List ℚ
  pub costs : List ℚ
  pub number : ℕ

-- the entry in position p and column j
abbrev pub cell : Plain → ℕ → ℕ → ℚ
cell t p j = at (get_or t.rows p []) j

-- there are m positions and n columns
pub record IsSized (m n : ℕ) (t : Plain) : Type 0 where
  pub rows : length t.rows ≡ m
  pub wide : (p : ℕ) → p < m → length (get_or t.rows p []) ≡ n
  pub values : length t.values ≡ m
  pub costs : length t.costs ≡ n
  pub basis : length t.state.basis ≡ m
  pub statuses : length t.state.statuses ≡ n
  pub within : (p : ℕ) → p < m → basic t.state p < n

-- the table stands at the state that the log reaches, under the number of the log's entries
pub record Stands (inst : Instance) (log : List Entry) (t : Plain) : Type 0 where
  pub table : StandsAt inst log t.state (cell t) t.values (at t.costs)
  pub number : t.number ≡ length log
  pub sized : IsSized (row_count inst) (column_count inst) t
