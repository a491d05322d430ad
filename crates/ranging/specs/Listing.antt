-- The values that are worked for the ranges of a state, in order, each with its place.
use Rattle.std.specs.Prelude.{◌≡◌, ℕ, ◌+◌, List, [], ◌∷◌, ◌++◌, map, Option, Some, None, Bool, false, true, not, ◌&&◌, ◌==◌, if◌then◌else◌}
use Rattle.std.specs.List.{flat_map}
use Rattle.lp_model.specs.declared.Entry.{Entry}
use Rattle.lp_model.specs.declared.Status.{Status}
use Rattle.lp_model.specs.declared.Status.TheVariants as status
use Rattle.lp_model.specs.Deck.{Interval}
use Rattle.rational.specs.Rational.{ℚ, zero_ℚ, ◌-ℚ◌, ◌/ℚ◌, eq_ℚ}
use Rattle.rational.specs.Sparse.{upto}
use Rattle.rational.specs.Sum.{at}
use Rattle.rational.specs.Width.{fits_width}
use Rattle.lp_run.specs.Instance.{Instance, bounds, column_count, row_count, structural_count}
use Rattle.lp_run.specs.Run.{IsRun}
use Rattle.lp_run.specs.Solution.{IsTable, Prices, Values, reduced}
use Rattle.lp_run.specs.State.{State, basic, status_of}
use Rattle.lp_run.specs.Step.{is_fixed}
use Rattle.ranging.specs.declared.fault.RangePlace.{RangePlace}
use Rattle.ranging.specs.declared.fault.RangePlace.TheVariants as place

-- a value with its place
abbrev pub Ranged : Type 0
Ranged = RangePlace × ℚ

abbrev pub is_basic : Status → Bool
is_basic status.Basic = true
is_basic status.Lower = false
is_basic status.Upper = false
is_basic status.Zero = false

-- a column is looked at where it is not basic and its two ends differ
abbrev pub is_looked_at : Instance → State → ℕ → Bool
is_looked_at inst s k = not (is_basic (status_of s k)) && not (is_fixed (bounds inst s.phase k))

-- ── the cost of a basic structural ──

-- the reduced cost d of column k over its entry r in a row, where it is looked at and has one
abbrev pub cost_quotient : Instance → State → ℚ → ℚ → ℕ → List ℚ
cost_quotient inst s d r k = if is_looked_at inst s k && not (eq_ℚ r zero_ℚ) then (d /ℚ r) ∷ [] else []

abbrev pub cost_quotients : Instance → State → (ℕ → ℚ) → (ℕ → ℚ) → List ℚ
cost_quotients inst s d row = flat_map (λ k. cost_quotient inst s (d k) (row k) k) (upto (column_count inst))

-- what is worked for the cost of structural j: nothing where it is not basic, else the quotients of its position's row
abbrev pub cost_listing : Instance → State → (ℕ → ℕ → ℚ) → (ℕ → ℚ) → ℕ → List Ranged
cost_listing inst s table d j =
    flat_map (λ p. if basic s p == j then map (λ v. (place.Cost j, v)) (cost_quotients inst s d (table p)) else []) (upto (row_count inst))

-- ── the right side of a row ──

-- the distance of the value b to a finite end, and that over the rate g
abbrev pub end_values : Option ℚ → ℚ → ℚ → List ℚ
end_values None b g = []
end_values (Some end) b g = (end -ℚ b) ∷ ((end -ℚ b) /ℚ g) ∷ []

-- a value b within these ends that moves at the rate g, if it moves: the lower end first
abbrev pub move_values : Interval → ℚ → ℚ → List ℚ
move_values ends b g = if eq_ℚ g zero_ℚ then [] else end_values ends.lower b g ++ end_values ends.upper b g

-- what is worked for the right side of row i: each basic value moves at the rate of the row's logical in its position
abbrev pub right_listing : Instance → State → (ℕ → ℕ → ℚ) → List ℚ → ℕ → List Ranged
right_listing inst s table β i =
    flat_map (λ p. map (λ v. (place.Right i, v)) (move_values (bounds inst s.phase (basic s p)) (at β p) (table p (structural_count inst + i)))) (upto (row_count inst))

-- ── all ranges ──

abbrev pub range_listing : Instance → State → (ℕ → ℕ → ℚ) → (ℕ → ℚ) → List ℚ → List Ranged
range_listing inst s table d β =
    flat_map (cost_listing inst s table d) (upto (structural_count inst)) ++ flat_map (right_listing inst s table β) (upto (row_count inst))

-- these values are listed, by the table, the reduced costs and the basic values of the state
abbrev pub RangeLists : Instance → State → List Ranged → Type 0
RangeLists inst s vs =
    (table : ℕ → ℕ → ℚ) × (y β : List ℚ) × IsTable inst s table × Prices inst s y × Values inst s β × (vs ≡ range_listing inst s table (reduced inst s y) β)

-- the place of the first value that does not fit the width
abbrev pub first_wide : ℕ → List Ranged → Option RangePlace
first_wide w [] = None
first_wide w ((here, v) ∷ vs) = if fits_width w v then first_wide w vs else Some here

-- every value fits the width that is worked for the ranges of the last state of the run
abbrev pub RangesFit : ℕ → Instance → List Entry → Type 0
RangesFit w inst log = (s : State) (vs : List Ranged) → IsRun inst log s → RangeLists inst s vs → first_wide w vs ≡ None
