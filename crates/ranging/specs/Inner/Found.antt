-- What is known of the ranges of a state, position by position.
use Rattle.std.specs.Prelude.{◌≡◌, ◌≢◌, ◌↔◌, ℕ, ◌+◌, ◌<◌, ◌≤◌, ◌⊎◌, List, length, Option, Some, None, Result, MatchResult, true, false, get_or, map, if◌then◌else◌}
use Rattle.std.specs.List.{list_all}
use Rattle.lp_model.specs.declared.Entry.{Entry}
use Rattle.lp_model.specs.declared.Status.TheVariants as status
use Rattle.lp_model.specs.Deck.{Interval, Within, in_sense}
use Rattle.exact_frac.specs.declared.unfit.Unfit.{Unfit}
use Rattle.exact_frac.specs.Count.{raised}
use Rattle.rational.specs.Rational.{ℚ, one_ℚ, neg_ℚ}
use Rattle.rational.specs.Sum.{at}
use Rattle.rational.specs.Width.{fits_width}
use Rattle.lp_run.specs.Instance.{Instance, bounds, column_count, row_count, structural_count}
use Rattle.lp_run.specs.Listing.{IsFirstUnfit}
use Rattle.lp_run.specs.Run.{IsRun}
use Rattle.lp_run.specs.Solution.{IsTable, Prices, Values, reduced}
use Rattle.lp_run.specs.State.{State, basic, status_of}
use Rattle.ranging.specs.declared.fault.RangeFault.{RangeFault}
use Rattle.ranging.specs.declared.fault.RangeFault.TheVariants as fault
use Rattle.plain_table.specs.declared.faults.TableFault.{TableFault}
use Rattle.plain_table.specs.declared.faults.TableFault.TheVariants as table
use Rattle.ranging.specs.declared.limits.Limits.{Limits}
use Rattle.basis_solves.specs.declared.refusal.Refusal.{Refusal}
use Rattle.basis_solves.specs.declared.refusal.Refusal.TheVariants as refusal
use Rattle.ranging.specs.Causes.{GivesUp}
use Rattle.ranging.specs.Inner.Limits.{CostsHold, cost_limit, counted, end_over, meet, value_limit}
use Rattle.ranging.specs.Listing.{cost_quotient, cost_quotients, end_values, is_looked_at, move_values}
use Rattle.ranging.specs.Ranges.{Ranges, everything}
use Rattle.ranging.specs.declared.fault.RangePlace.TheVariants as place
use Rattle.std.specs.Option.{unwrap_or}

-- all of these values fit the width, or one does not
abbrev pub FitAll : ℕ → List ℚ → Type 0
FitAll w vs = list_all (fits_width w) vs ≡ true

abbrev pub IsWide : ℕ → List ℚ → Type 0
IsWide w vs = list_all (fits_width w) vs ≡ false

-- ── one column, one row ──

-- the changes by which column k, of reduced cost d and entry r, does not come to improve
abbrev pub LimitsOne : ℕ → Instance → State → ℚ → ℚ → ℕ → Result Interval Unfit → Type 0
LimitsOne w inst s d r k result =
    MatchResult result (λ i. FitAll w (cost_quotient inst s d r k) × ((u : ℚ) → Within i u ↔ (is_looked_at inst s k ≡ true → Within (cost_limit (status_of s k) d r) u)))
    (λ _. IsWide w (cost_quotient inst s d r k))

-- the changes by which no column does
abbrev pub LimitsAll : ℕ → Instance → State → (ℕ → ℚ) → (ℕ → ℚ) → Result Interval Unfit → Type 0
LimitsAll w inst s d row result =
    MatchResult result (λ i. FitAll w (cost_quotients inst s d row) × ((u : ℚ) → Within i u ↔ CostsHold inst s d row u)) (λ _. IsWide w (cost_quotients inst s d row))

-- the interval of a basic structural, where what is worked for it fits, by the row of its position
abbrev pub IsCostLimit : ℕ → Instance → State → (ℕ → ℚ) → (ℕ → ℚ) → Option Interval → Type 0
IsCostLimit w inst s d row None = IsWide w (cost_quotients inst s d row)
IsCostLimit w inst s d row (Some i) = FitAll w (cost_quotients inst s d row) × ((t : ℚ) → Within i t ↔ CostsHold inst s d row (in_sense inst.sense t))

-- the interval of a structural that is not basic
abbrev pub own_limit : Instance → State → ℚ → ℕ → Interval
own_limit inst s d j = counted inst.sense (if is_looked_at inst s j then cost_limit (status_of s j) d (neg_ℚ one_ℚ) else everything)

-- ── one position ──

-- the distance of a value to an end, over its rate, where what is worked for it fits
abbrev pub IsEndLimit : ℕ → Option ℚ → ℚ → ℚ → Result (Option ℚ) Unfit → Type 0
IsEndLimit w end b g result = MatchResult result (λ e. FitAll w (end_values end b g) × (e ≡ end_over end b g)) (λ _. IsWide w (end_values end b g))

-- the changes by which a value that moves at a rate stays within these ends, where what is worked for them fits
abbrev pub IsMoveLimit : ℕ → Interval → ℚ → ℚ → Result Interval Unfit → Type 0
IsMoveLimit w ends b g result = MatchResult result (λ i. FitAll w (move_values ends b g) × (i ≡ value_limit ends b g)) (λ _. IsWide w (move_values ends b g))

-- a value that moves at a rate, taken into what is known of a right side
abbrev pub TakesMove : ℕ → Interval → ℚ → ℚ → Option Interval → Option Interval → Type 0
TakesMove w ends b g None after = after ≡ None
TakesMove w ends b g (Some i) None = IsWide w (move_values ends b g)
TakesMove w ends b g (Some i) (Some after) = FitAll w (move_values ends b g) × (after ≡ meet i (value_limit ends b g))

-- what is known of the right side of row i by the positions below this one
abbrev pub IsRightLimit : ℕ → Instance → State → (ℕ → ℕ → ℚ) → List ℚ → ℕ → ℕ → Option Interval → Type 0
IsRightLimit w inst s table β i to None = (p : ℕ) × (p < to) × IsWide w (move_values (bounds inst s.phase (basic s p)) (at β p) (table p (structural_count inst + i)))
IsRightLimit w inst s table β i to (Some range) =
    ((p : ℕ) → p < to → FitAll w (move_values (bounds inst s.phase (basic s p)) (at β p) (table p (structural_count inst + i))))
    × ((t : ℚ) → Within range t ↔ ((p : ℕ) → p < to → Within (value_limit (bounds inst s.phase (basic s p)) (at β p) (table p (structural_count inst + i))) t))

-- ── all ranges ──

-- what is known by the positions below this one
pub record AreLimits (w : ℕ) (inst : Instance) (s : State) (table : ℕ → ℕ → ℚ) (d : ℕ → ℚ) (β : List ℚ) (to : ℕ) (limits : Limits) : Type 0 where
  pub each_cost : length limits.costs.items ≡ structural_count inst
  pub each_right : length limits.rights.items ≡ row_count inst
  pub own : (j : ℕ) → j < structural_count inst → status_of s j ≢ status.Basic → get_or limits.costs.items j None ≡ Some (own_limit inst s (d j) j)
  pub costs : (p : ℕ) → p < to → basic s p < structural_count inst → IsCostLimit w inst s d (table p) (get_or limits.costs.items (basic s p) None)
  pub rights : (i : ℕ) → i < row_count inst → IsRightLimit w inst s table β i to (get_or limits.rights.items i None)

-- what is known before any position: the intervals of the structurals that are not basic
pub record AreBegun (inst : Instance) (s : State) (worked : List ℚ) (limits : Limits) : Type 0 where
  pub each_cost : length limits.costs.items ≡ structural_count inst
  pub each_right : length limits.rights.items ≡ row_count inst
  pub costs : (j : ℕ) → j < structural_count inst → get_or limits.costs.items j None ≡ Some (own_limit inst s (at worked j) j)
  pub rights : (i : ℕ) → i < row_count inst → get_or limits.rights.items i None ≡ Some everything

-- the reduced costs, position p of the basic values and what is read of its row are those of the table: entries are read of columns that are looked
-- at, and only where a structural is basic in the position
pub record IsPosition (inst : Instance) (s : State) (table : ℕ → ℕ → ℚ) (d : ℕ → ℚ) (β : List ℚ) (p : ℕ) (costs : List ℚ) (value : ℚ) (row rates : List ℚ) : Type 0 where
  pub costs_read : (k : ℕ) → k < column_count inst → is_looked_at inst s k ≡ true → at costs k ≡ d k
  pub value_read : value ≡ at β p
  pub row_read : basic s p < structural_count inst → (k : ℕ) → k < column_count inst → is_looked_at inst s k ≡ true → at row k ≡ table p k
  pub rates_read : (i : ℕ) → i < row_count inst → at rates i ≡ table p (structural_count inst + i)

-- the state, and what is read and known of it, have the lengths of the instance
pub record AreSized (inst : Instance) (s : State) (costs row rates : List ℚ) (limits : Limits) : Type 0 where
  pub statuses : length s.statuses ≡ column_count inst
  pub positions : length s.basis ≡ row_count inst
  pub costs_each : length costs ≡ column_count inst
  pub row_each : length row ≡ column_count inst
  pub rates_each : length rates ≡ row_count inst
  pub each_cost : length limits.costs.items ≡ structural_count inst
  pub each_right : length limits.rights.items ≡ row_count inst

-- the interval of the structural that is basic in a position is worked by its row; the others stay
abbrev pub TakesCost : ℕ → Instance → State → List ℚ → ℕ → List ℚ → List (Option Interval) → List (Option Interval) → Type 0
TakesCost w inst s costs p row old new =
    (length new ≡ length old) × ((j : ℕ) → j ≢ basic s p → get_or new j None ≡ get_or old j None)
    × (basic s p < structural_count inst → IsCostLimit w inst s (at costs) (at row) (get_or new (basic s p) None))

-- the same, and the position's basic value is taken into each right side
pub record TakesPosition (w : ℕ) (inst : Instance) (s : State) (costs : List ℚ) (p : ℕ) (value : ℚ) (row rates : List ℚ) (old new : Limits) : Type 0 where
  pub cost : TakesCost w inst s costs p row old.costs.items new.costs.items
  pub each_right : length new.rights.items ≡ length old.rights.items
  pub rights : (i : ℕ) → i < length old.rights.items
      → TakesMove w (bounds inst s.phase (basic s p)) value (at rates i) (get_or old.rights.items i None) (get_or new.rights.items i None)

-- all is known that the positions tell
abbrev pub AreWorked : ℕ → Instance → State → Limits → Type 0
AreWorked w inst s limits =
    (table : ℕ → ℕ → ℚ) × (y β : List ℚ) × IsTable inst s table × Prices inst s y × Values inst s β × AreLimits w inst s table (reduced inst s y) β (row_count inst) limits

-- the same of the state that a log leads to
abbrev pub AreWorkedAt : ℕ → Instance → List Entry → Limits → Type 0
AreWorkedAt w inst log limits = (s : State) × IsRun inst log s × AreWorked w inst s limits

-- an interval is missing, since a value that is worked for it does not fit
abbrev pub Misses : List (Option Interval) → Type 0
Misses limits = (k : ℕ) × (k < length limits) × (get_or limits k None ≡ None)

-- the first that is missing
abbrev pub IsFirstMissing : List (Option Interval) → Option ℕ → Type 0
IsFirstMissing limits None = Misses limits → ⊥
IsFirstMissing limits (Some k) = (k < length limits) × (get_or limits k None ≡ None) × ((before : ℕ) → before < k → get_or limits before None ≢ None)

abbrev pub present : List (Option Interval) → List Interval
present limits = map (λ limit. unwrap_or limit everything) limits

-- the intervals, where none is missing, or the place of the first that is, costs before right sides
abbrev pub IsMissing : Limits → RangeFault → Type 0
IsMissing limits fault.Memory = Unit {0}
IsMissing limits (fault.Overflow here) = ⊥
IsMissing limits (fault.Unfit (place.Cost j)) = IsFirstMissing limits.costs.items (Some j)
IsMissing limits (fault.Unfit (place.Right i)) = (Misses limits.costs.items → ⊥) × IsFirstMissing limits.rights.items (Some i)

abbrev pub AreCompleted : Limits → Result Ranges RangeFault → Type 0
AreCompleted limits result =
    MatchResult result (λ found. (Misses limits.costs.items → ⊥) × (Misses limits.rights.items → ⊥) × (found ≡ record { costs = present limits.costs.items; rights = present limits.rights.items }))
    (IsMissing limits)

-- where one is, the count of unfit results has risen
abbrev pub HasRisen : ℕ → ℕ → Limits → Type 0
HasRisen before after limits = Misses limits.costs.items ⊎ Misses limits.rights.items → raised before 1 ≤ after

-- the same for a list alone: one is missing that was there
abbrev pub RisesFor : ℕ → ℕ → List (Option Interval) → List (Option Interval) → Type 0
RisesFor before after old new = Misses new → Misses old ⊎ (raised before 1 ≤ after)

abbrev pub RisesForLimits : ℕ → ℕ → Limits → Limits → Type 0
RisesForLimits before after old new = RisesFor before after old.costs.items new.costs.items × RisesFor before after old.rights.items new.rights.items

-- over the table an overflow has the place of the run's first value that does not fit, and the count has risen; nothing else of the ranges is refused
abbrev pub IsTableFault : ℕ → Instance → List Entry → ℕ → ℕ → RangeFault → Type 0
IsTableFault w inst log before after fault.Memory = Unit {0}
IsTableFault w inst log before after (fault.Overflow here) = ((s : State) × IsRun inst log s × IsFirstUnfit w inst log s here) × (raised before 1 ≤ after)
IsTableFault w inst log before after (fault.Unfit here) = ⊥

-- why there are no ranges, where there is no table
abbrev pub range_fault : TableFault → RangeFault
range_fault table.Memory = fault.Memory
range_fault (table.Overflow here) = fault.Overflow here

-- factors are given up at the state that the log leads to
abbrev pub GivesUpAt : ℕ → Instance → List Entry → Type 0
GivesUpAt w inst log = (s : State) × IsRun inst log s × GivesUp w inst s

-- a refusal for an unfit value has raised the count
abbrev pub RaisedFor : ℕ → ℕ → Refusal → Type 0
RaisedFor before after refusal.Memory = Unit {0}
RaisedFor before after refusal.Unfit = raised before 1 ≤ after
