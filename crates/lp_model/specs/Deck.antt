-- A deck: a linear program with its names. Its feasible points and its optima.
use Rattle.std.specs.Prelude.{◌≡◌, ℕ, ◌<◌, List, [], length, Option, Some, None, get_or}
use Rattle.std.specs.declared.cmp.Ordering.TheVariants.{Less, Equal, Greater}
use Rattle.lp_model.specs.declared.RowKind.{RowKind}
use Rattle.lp_model.specs.declared.RowKind.TheVariants.{L, G, E}
use Rattle.lp_model.specs.declared.Sense.{Sense}
use Rattle.lp_model.specs.declared.Sense.TheVariants.{Min, Max}
use Rattle.rational.specs.Rational.{ℚ, zero_ℚ, ◌+ℚ◌, ◌-ℚ◌, ◌*ℚ◌, neg_ℚ, abs_ℚ, cmp_ℚ, ◌≤ℚ◌}
use Rattle.rational.specs.Sparse.{IsSparse, entry_at}
use Rattle.rational.specs.Sum.{sum_ℚ, at}

-- the numbers from a lower to an upper end; an end that is absent is infinite
pub record Interval : Type 0 where
  pub lower : Option ℚ
  pub upper : Option ℚ

abbrev pub NotBelow : Option ℚ → ℚ → Type 0
NotBelow None x = Unit {0}
NotBelow (Some l) x = l ≤ℚ x

abbrev pub NotAbove : Option ℚ → ℚ → Type 0
NotAbove None x = Unit {0}
NotAbove (Some u) x = x ≤ℚ u

abbrev pub Within : Interval → ℚ → Type 0
Within i x = NotBelow i.lower x × NotAbove i.upper x

-- a row: its name, its kind, its right side and its range
pub record Row : Type 0 where
  pub name : List ℕ
  pub kind : RowKind
  pub right : ℚ
  pub range : Option ℚ

-- a column: its name, its cost, its entries by rising rows, none of them 0, and its bounds
pub record Column : Type 0 where
  pub name : List ℕ
  pub cost : ℚ
  pub entries : List (ℕ × ℚ)
  pub bounds : Interval

-- a deck: its name, the objective's name, whether the least or the greatest objective is sought, its rows, its columns and the objective's constant
pub record Deck : Type 0 where
  pub name : List ℕ
  pub objective : List ℕ
  pub sense : Sense
  pub rows : List Row
  pub columns : List Column
  pub constant : ℚ

-- the ends of an interval do not cross
abbrev pub IsUncrossed : Interval → Type 0
IsUncrossed i = (l u : ℚ) → i.lower ≡ Some l → i.upper ≡ Some u → l ≤ℚ u

abbrev pub nonnegative : Interval
nonnegative = record { lower = Some zero_ℚ; upper = None }

-- what stands past the end of the lists of rows and of columns
abbrev pub no_row : Row
no_row = record { name = []; kind = L; right = zero_ℚ; range = None }

abbrev pub no_column : Column
no_column = record { name = []; cost = zero_ℚ; entries = []; bounds = nonnegative }

abbrev pub row : Deck → ℕ → Row
row d i = get_or d.rows i no_row

abbrev pub column : Deck → ℕ → Column
column d j = get_or d.columns j no_column

-- a deck whose columns are sparse columns over its rows, with bounds that do not cross
pub record IsDeck (d : Deck) : Type 0 where
  pub sparse : (j : ℕ) → j < length d.columns → IsSparse (length d.rows) 0 (column d j).entries
  pub uncrossed : (j : ℕ) → j < length d.columns → IsUncrossed (column d j).bounds

-- the entry in row i and column j
abbrev pub entry : Deck → ℕ → ℕ → ℚ
entry d i j = entry_at (column d j).entries i

abbrev pub between : ℚ → ℚ → Interval
between l u = record { lower = Some l; upper = Some u }

-- the interval of an equality's activity: its range goes up where it is above 0, and down where it is below
abbrev pub equality_interval : ℚ → ℚ → Interval
equality_interval b r = elim (cmp_ℚ r zero_ℚ) [ Less ↦ between (b -ℚ abs_ℚ r) b | Equal ↦ between b b | Greater ↦ between b (b +ℚ r) ]

-- the interval in which a row's activity lies
abbrev pub activity_interval_of : RowKind → ℚ → Option ℚ → Interval
activity_interval_of L b None = record { lower = None; upper = Some b }
activity_interval_of L b (Some r) = between (b -ℚ abs_ℚ r) b
activity_interval_of G b None = record { lower = Some b; upper = None }
activity_interval_of G b (Some r) = between b (b +ℚ abs_ℚ r)
activity_interval_of E b None = between b b
activity_interval_of E b (Some r) = equality_interval b r

abbrev pub activity_interval : Row → Interval
activity_interval r = activity_interval_of r.kind r.right r.range

-- the bounds of an equality's logical, which is the right side less the activity
abbrev pub equality_slack : ℚ → Interval
equality_slack r = elim (cmp_ℚ r zero_ℚ) [ Less ↦ between zero_ℚ (abs_ℚ r) | Equal ↦ between zero_ℚ zero_ℚ | Greater ↦ between (neg_ℚ r) zero_ℚ ]

-- the bounds of a row's logical
abbrev pub logical_bounds_of : RowKind → Option ℚ → Interval
logical_bounds_of L None = nonnegative
logical_bounds_of L (Some r) = between zero_ℚ (abs_ℚ r)
logical_bounds_of G None = record { lower = None; upper = Some zero_ℚ }
logical_bounds_of G (Some r) = between (neg_ℚ (abs_ℚ r)) zero_ℚ
logical_bounds_of E None = between zero_ℚ zero_ℚ
logical_bounds_of E (Some r) = equality_slack r

abbrev pub logical_bounds : Row → Interval
logical_bounds r = logical_bounds_of r.kind r.range

-- a row's activity at a point
abbrev pub activity : Deck → List ℚ → ℕ → ℚ
activity d x i = sum_ℚ (length d.columns) (λ j. entry d i j *ℚ at x j)

-- a point for the deck: one number for each column, each within its bounds, and each row's activity within its interval
pub record IsFeasible (d : Deck) (x : List ℚ) : Type 0 where
  pub one_each : length x ≡ length d.columns
  pub columns_within : (j : ℕ) → j < length d.columns → Within (column d j).bounds (at x j)
  pub rows_within : (i : ℕ) → i < length d.rows → Within (activity_interval (row d i)) (activity d x i)

-- the cost of a list of numbers
abbrev pub cost_at : Deck → List ℚ → ℚ
cost_at d x = sum_ℚ (length d.columns) (λ j. (column d j).cost *ℚ at x j)

-- the objective at a point: the constant and the cost
abbrev pub objective : Deck → List ℚ → ℚ
objective d x = d.constant +ℚ cost_at d x

-- a number as the sense counts it, so that less is better: itself, or its negative where the greatest is sought
abbrev pub in_sense : Sense → ℚ → ℚ
in_sense Min v = v
in_sense Max v = neg_ℚ v

-- no feasible point has a better objective
pub record IsOptimal (d : Deck) (x : List ℚ) : Type 0 where
  pub feasible : IsFeasible d x
  pub least : (x' : List ℚ) → IsFeasible d x' → in_sense d.sense (objective d x) ≤ℚ in_sense d.sense (objective d x')
