-- A state of the method: which columns are basic in which position, where the other columns stand, and the phase.
use Rattle.std.specs.Prelude.{◌≡◌, ◌↔◌, ℕ, ◌+◌, ◌<◌, List, ◌++◌, map, length, get_or, set, Contains, Option, Some, None, IsSome, is_some, if◌then◌else◌}
use Rattle.std.specs.Option.{unwrap_or}
use Rattle.lp_model.specs.declared.Entry.{Entry}
use Rattle.lp_model.specs.declared.Entry.TheVariants.{Flip, Swap, Turn}
use Rattle.lp_model.specs.declared.Phase.{Phase}
use Rattle.lp_model.specs.declared.Phase.TheVariants.{One, Two}
use Rattle.lp_model.specs.declared.Side.{Side}
use Rattle.lp_model.specs.declared.Side.TheVariants as side
use Rattle.lp_model.specs.declared.Status.{Status}
use Rattle.lp_model.specs.declared.Status.TheVariants as status
use Rattle.rational.specs.Rational.{ℚ, zero_ℚ}
use Rattle.rational.specs.Sparse.{upto}
use Rattle.std.specs.List.{list_any}
use Rattle.lp_model.specs.Deck.{Interval}
use Rattle.lp_run.specs.Instance.{Instance, bounds, column_count, is_needed, row_count, structural_count}

-- the basic columns by position, a status for each column, and the phase
pub record State : Type 0 where
  pub basis : List ℕ
  pub statuses : List Status
  pub phase : Phase

-- the column that is basic in position p
abbrev pub basic : State → ℕ → ℕ
basic s p = get_or s.basis p 0

abbrev pub status_of : State → ℕ → Status
status_of s j = get_or s.statuses j status.Lower

-- the status names an end that the bounds have, and `Zero` stands where they have none
abbrev pub NamesEnd : Status → Interval → Type 0
NamesEnd status.Basic i = Unit {0}
NamesEnd status.Lower i = IsSome i.lower
NamesEnd status.Upper i = IsSome i.upper
NamesEnd status.Zero i = (i.lower ≡ None) × (i.upper ≡ None)

-- a position for each row, a status for each column, `Basic` just at the columns in the positions, each once, and no end that is not there
pub record IsState (inst : Instance) (s : State) : Type 0 where
  pub positions : length s.basis ≡ row_count inst
  pub columns : length s.statuses ≡ column_count inst
  pub in_range : (p : ℕ) → p < row_count inst → basic s p < column_count inst
  pub once : (p p' : ℕ) → p < row_count inst → p' < row_count inst → basic s p ≡ basic s p' → p ≡ p'
  pub basic_just_there : (j : ℕ) → j < column_count inst → (status_of s j ≡ status.Basic) ↔ Contains s.basis j
  pub ends : (j : ℕ) → j < column_count inst → NamesEnd (status_of s j) (bounds inst s.phase j)

-- the value of a column that stands at an end or at 0; a basic column counts 0
abbrev pub resting_value : Status → Interval → ℚ
resting_value status.Basic i = zero_ℚ
resting_value status.Lower i = unwrap_or i.lower zero_ℚ
resting_value status.Upper i = unwrap_or i.upper zero_ℚ
resting_value status.Zero i = zero_ℚ

-- the value at which column j rests
abbrev pub rest : Instance → State → ℕ → ℚ
rest inst s j = resting_value (status_of s j) (bounds inst s.phase j)

abbrev pub standing_at : Side → Status
standing_at side.Lower = status.Lower
standing_at side.Upper = status.Upper

abbrev pub other_end : Status → Status
other_end status.Lower = status.Upper
other_end status.Upper = status.Lower
other_end status.Basic = status.Basic
other_end status.Zero = status.Zero

-- the state after an entry: a flip takes the column to its other end; a swap puts the column into the position and the one that was there at the end; a turn begins phase two
abbrev pub after : State → Entry → State
after s (Flip q) = record s { statuses = set s.statuses q (other_end (status_of s q)) }
after s (Swap q p end) = record s { basis = set s.basis p q; statuses = set (set s.statuses (basic s p) (standing_at end)) q status.Basic }
after s Turn = record s { phase = Two }

-- ── the start ──

-- at the finite lower end, else at the finite upper end, else at 0
abbrev pub structural_start : Interval → Status
structural_start i = elim i.lower [ Some l ↦ status.Lower | None ↦ elim i.upper [ Some u ↦ status.Upper | None ↦ status.Zero ] ]

-- the logical is basic, or stands at the end that its row's residual passes
abbrev pub logical_start : Option Side → Status
logical_start None = status.Basic
logical_start (Some end) = standing_at end

-- the artificial is basic where it is needed
abbrev pub artificial_start : Option Side → Status
artificial_start None = status.Lower
artificial_start (Some end) = status.Basic

-- the column that is basic in position i: the artificial of row i where it is needed, else the logical
abbrev pub start_basic : Instance → ℕ → ℕ
start_basic inst i = if is_needed inst i then structural_count inst + row_count inst + i else structural_count inst + i

-- the start of the method: each structural at an end or at 0, phase one where some row needs its artificial
abbrev pub start_of : Instance → State
start_of inst = record {
  basis = map (start_basic inst) (upto (row_count inst));
  statuses = map (λ c. structural_start c.bounds) inst.structurals ++ map logical_start inst.passed ++ map artificial_start inst.passed;
  phase = if list_any is_some inst.passed then One else Two;
}
