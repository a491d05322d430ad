-- The instance of a deck: the deck's columns, then a logical and an artificial for each row, in the equations that the method works on.
use Rattle.std.specs.Prelude.{◌≡◌, ℕ, ◌+◌, ◌-◌, ◌<◌, List, [], map, length, Option, Some, None, get_or, nat_lt, if◌then◌else◌, Bool, true, false, is_some}
use Rattle.std.specs.Option.{option_map, unwrap_or}
use Rattle.std.specs.declared.cmp.Ordering.TheVariants.{Less, Equal, Greater}
use Rattle.lp_model.specs.declared.Phase.{Phase}
use Rattle.lp_model.specs.declared.Phase.TheVariants.{One, Two}
use Rattle.lp_model.specs.declared.RowKind.TheVariants.{L, G, E}
use Rattle.lp_model.specs.declared.Sense.{Sense}
use Rattle.lp_model.specs.declared.Side.{Side}
use Rattle.lp_model.specs.declared.Side.TheVariants as side
use Rattle.lp_run.specs.declared.ColumnKind.{ColumnKind}
use Rattle.lp_run.specs.declared.ColumnKind.TheVariants as column
use Rattle.rational.specs.Rational.{ℚ, zero_ℚ, one_ℚ, ◌+ℚ◌, ◌-ℚ◌, ◌*ℚ◌, neg_ℚ, abs_ℚ, cmp_ℚ, lt_ℚ}
use Rattle.rational.specs.Sparse.{IsSparse, at_index, entry_at, upto}
use Rattle.rational.specs.Sum.{sum_ℚ, at}
use Rattle.lp_model.specs.Deck.{Column, Deck, Interval, IsDeck, IsUncrossed, Row, between, in_sense, logical_bounds, nonnegative}

-- a structural: a column of the deck without its name
pub record Structural : Type 0 where
  pub cost : ℚ
  pub entries : List (ℕ × ℚ)
  pub bounds : Interval

-- an instance: the right sides, the structurals, the bounds of the logicals, the ends that ranges give, for each row the end of its logical that
-- its residual passes, the objective's constant, and the sense.
-- Of m rows and n structurals, the columns are the structurals 0 to n - 1, the logicals n to n + m - 1 and the artificials n + m to n + 2m - 1
pub record Instance : Type 0 where
  pub right : List ℚ
  pub structurals : List Structural
  pub logicals : List Interval
  pub range_sums : List (Option ℚ)
  pub passed : List (Option Side)
  pub constant : ℚ
  pub sense : Sense

abbrev pub row_count : Instance → ℕ
row_count inst = length inst.right

abbrev pub structural_count : Instance → ℕ
structural_count inst = length inst.structurals

abbrev pub column_count : Instance → ℕ
column_count inst = structural_count inst + row_count inst + row_count inst

abbrev pub no_structural : Structural
no_structural = record { cost = zero_ℚ; entries = []; bounds = nonnegative }

abbrev pub structural : Instance → ℕ → Structural
structural inst j = get_or inst.structurals j no_structural

abbrev pub logical : Instance → ℕ → Interval
logical inst i = get_or inst.logicals i nonnegative

-- the end of its logical that the residual of row i passes
abbrev pub passed_side : Instance → ℕ → Option Side
passed_side inst i = get_or inst.passed i None

-- the artificial of row i is needed where the residual passes an end
abbrev pub is_needed : Instance → ℕ → Bool
is_needed inst i = is_some (passed_side inst i)

-- the sign of the residual less the end that it passes
abbrev pub sign_past : Option Side → ℚ
sign_past None = one_ℚ
sign_past (Some side.Lower) = neg_ℚ one_ℚ
sign_past (Some side.Upper) = one_ℚ

-- which column a number names
abbrev pub column_kind : Instance → ℕ → ColumnKind
column_kind inst j =
    let n = structural_count inst in
    let m = row_count inst in
    if nat_lt j n then column.Structural j else (if nat_lt j (n + m) then column.Logical (j - n) else column.Artificial (j - n - m))

abbrev pub kind_coefficient : Instance → ℕ → ColumnKind → ℚ
kind_coefficient inst i (column.Structural j) = entry_at (structural inst j).entries i
kind_coefficient inst i (column.Logical k) = at_index i k one_ℚ
kind_coefficient inst i (column.Artificial k) = at_index i k (sign_past (passed_side inst k))

-- the entry of the equations in row i and column j
abbrev pub coefficient : Instance → ℕ → ℕ → ℚ
coefficient inst i j = kind_coefficient inst i (column_kind inst j)

abbrev pub kind_bounds : Instance → Phase → ColumnKind → Interval
kind_bounds inst phase (column.Structural j) = (structural inst j).bounds
kind_bounds inst phase (column.Logical i) = logical inst i
kind_bounds inst One (column.Artificial i) = if is_needed inst i then nonnegative else between zero_ℚ zero_ℚ
kind_bounds inst Two (column.Artificial i) = between zero_ℚ zero_ℚ

-- the bounds of column j in a phase
abbrev pub bounds : Instance → Phase → ℕ → Interval
bounds inst phase j = kind_bounds inst phase (column_kind inst j)

abbrev pub kind_cost : Instance → Phase → ColumnKind → ℚ
kind_cost inst Two (column.Structural j) = in_sense inst.sense (structural inst j).cost
kind_cost inst One (column.Artificial i) = if is_needed inst i then one_ℚ else zero_ℚ
kind_cost inst One (column.Structural j) = zero_ℚ
kind_cost inst One (column.Logical i) = zero_ℚ
kind_cost inst Two (column.Logical i) = zero_ℚ
kind_cost inst Two (column.Artificial i) = zero_ℚ

-- the cost of column j in a phase, which the method minimises
abbrev pub cost : Instance → Phase → ℕ → ℚ
cost inst phase j = kind_cost inst phase (column_kind inst j)

-- ── where the structurals start, and what the start leaves of the right sides ──

-- at the finite lower end, else at the finite upper end, else at 0
abbrev pub start_value : Interval → ℚ
start_value i = unwrap_or i.lower (unwrap_or i.upper zero_ℚ)

-- the residual of row i: its right side less the structurals at their start
abbrev pub residual : Instance → ℕ → ℚ
residual inst i = at inst.right i -ℚ sum_ℚ (structural_count inst) (λ j. entry_at (structural inst j).entries i *ℚ start_value (structural inst j).bounds)

abbrev pub is_below : Option ℚ → ℚ → Bool
is_below None x = false
is_below (Some l) x = lt_ℚ x l

abbrev pub is_above : Option ℚ → ℚ → Bool
is_above None x = false
is_above (Some u) x = lt_ℚ u x

abbrev pub passed_by : Bool → Bool → Interval → Option (Side × ℚ)
passed_by true above i = Some (side.Lower, unwrap_or i.lower zero_ℚ)
passed_by false true i = Some (side.Upper, unwrap_or i.upper zero_ℚ)
passed_by false false i = None

-- the end of an interval that a number passes, if it passes one
abbrev pub passed_end : Interval → ℚ → Option (Side × ℚ)
passed_end i x = passed_by (is_below i.lower x) (is_above i.upper x) i

-- the end of its logical that the residual of row i passes
abbrev pub row_passes : Instance → ℕ → Option (Side × ℚ)
row_passes inst i = passed_end (logical inst i) (residual inst i)

-- ── the instance of a deck ──

abbrev pub structural_of : Column → Structural
structural_of c = record { cost = c.cost; entries = c.entries; bounds = c.bounds }

-- the end of a row's interval that its range gives
abbrev pub range_sum : Row → Option ℚ
range_sum r = elim r.range [
  | None ↦ None
  | Some v ↦ elim r.kind [
    | L ↦ Some (r.right -ℚ abs_ℚ v)
    | G ↦ Some (r.right +ℚ abs_ℚ v)
    | E ↦ elim (cmp_ℚ v zero_ℚ) [ Less ↦ Some (r.right -ℚ abs_ℚ v) | Equal ↦ None | Greater ↦ Some (r.right +ℚ v) ]
  ]
]

-- the rows, columns, constant and sense of a deck
abbrev pub equations_of : Deck → Instance
equations_of d = record {
  right = map (λ r. r.right) d.rows;
  structurals = map structural_of d.columns;
  logicals = map logical_bounds d.rows;
  range_sums = map range_sum d.rows;
  passed = [];
  constant = d.constant;
  sense = d.sense;
}

-- the side of the end that each row's residual passes
abbrev pub sides_passed : Instance → List (Option Side)
sides_passed inst = map (λ i. option_map (λ passed. passed.0) (row_passes inst i)) (upto (row_count inst))

-- the instance of a deck
abbrev pub instance_of : Deck → Instance
instance_of d = record (equations_of d) { passed = sides_passed (equations_of d) }

-- the instance of some deck
abbrev pub IsInstance : Instance → Type 0
IsInstance inst = (d : Deck) × IsDeck d × (inst ≡ instance_of d)

-- what holds of the instance of every deck: each row has the bounds of its logical, a place for a range sum and one for the end that its residual passes;
-- the structurals are sparse columns over the rows; no bounds cross
pub record IsWellFormed (inst : Instance) : Type 0 where
  pub logicals : length inst.logicals ≡ row_count inst
  pub range_sums : length inst.range_sums ≡ row_count inst
  pub sides : length inst.passed ≡ row_count inst
  pub passes : (i : ℕ) → i < row_count inst → passed_side inst i ≡ option_map (λ passed. passed.0) (row_passes inst i)
  pub sparse : (j : ℕ) → j < structural_count inst → IsSparse (row_count inst) 0 (structural inst j).entries
  pub uncrossed : (j : ℕ) → j < structural_count inst → IsUncrossed (structural inst j).bounds
  pub logicals_uncrossed : (i : ℕ) → i < row_count inst → IsUncrossed (logical inst i)
