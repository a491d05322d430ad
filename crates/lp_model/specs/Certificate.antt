-- The three proofs that an answer carries: prices for an optimum, a row combination against any feasible point (Farkas), a ray without end.
use Rattle.std.specs.Prelude.{◌≡◌, ℕ, ◌<◌, List, length, Option, Some, None, IsSome}
use Rattle.std.specs.Option.{unwrap_or}
use Rattle.std.specs.declared.cmp.Ordering.TheVariants.{Less, Equal, Greater}
use Rattle.rational.specs.Rational.{ℚ, zero_ℚ, ◌+ℚ◌, ◌-ℚ◌, ◌*ℚ◌, cmp_ℚ, ◌<ℚ◌}
use Rattle.rational.specs.Sum.{sum_ℚ, at}
use Rattle.lp_model.specs.Deck.{Deck, Interval, IsFeasible, activity, activity_interval, column, cost_at, entry, in_sense, logical_bounds, row}

-- y times column j
abbrev pub weighted_column : Deck → List ℚ → ℕ → ℚ
weighted_column d y j = sum_ℚ (length d.rows) (λ i. at y i *ℚ entry d i j)

-- y times the right sides
abbrev pub weighted_right : Deck → List ℚ → ℚ
weighted_right d y = sum_ℚ (length d.rows) (λ i. at y i *ℚ (row d i).right)

-- the reduced cost of column j at the prices y
abbrev pub reduced_cost : Deck → List ℚ → ℕ → ℚ
reduced_cost d y j = (column d j).cost -ℚ weighted_column d y j

-- the prices y prove that the feasible point x is optimal
pub record Proves (d : Deck) (x y : List ℚ) : Type 0 where
  pub feasible : IsFeasible d x
  pub one_each : length y ≡ length d.rows
  pub above : (j : ℕ) → j < length d.columns → zero_ℚ <ℚ in_sense d.sense (reduced_cost d y j) → (column d j).bounds.lower ≡ Some (at x j)
  pub below : (j : ℕ) → j < length d.columns → in_sense d.sense (reduced_cost d y j) <ℚ zero_ℚ → (column d j).bounds.upper ≡ Some (at x j)
  pub price_above : (i : ℕ) → i < length d.rows → zero_ℚ <ℚ in_sense d.sense (at y i) → (activity_interval (row d i)).lower ≡ Some (activity d x i)
  pub price_below : (i : ℕ) → i < length d.rows → in_sense d.sense (at y i) <ℚ zero_ℚ → (activity_interval (row d i)).upper ≡ Some (activity d x i)

-- the greatest value of c · t for t in an interval, where it is finite
abbrev pub greatest : ℚ → Interval → Option ℚ
greatest c i = elim (cmp_ℚ c zero_ℚ) [ Less ↦ scaled i.lower | Equal ↦ Some zero_ℚ | Greater ↦ scaled i.upper ]
  where
    scaled : Option ℚ → Option ℚ
    scaled None = None
    scaled (Some v) = Some (c *ℚ v)

-- the greatest contribution of column j to y times the activities
abbrev pub column_greatest : Deck → List ℚ → ℕ → Option ℚ
column_greatest d y j = greatest (weighted_column d y j) (column d j).bounds

-- the greatest contribution of the logical of row i
abbrev pub logical_greatest : Deck → List ℚ → ℕ → Option ℚ
logical_greatest d y i = greatest (at y i) (logical_bounds (row d i))

-- the rows combined by y exceed all that the bounds allow, so no point is feasible
pub record Farkas (d : Deck) (y : List ℚ) : Type 0 where
  pub one_each : length y ≡ length d.rows
  pub columns_finite : (j : ℕ) → j < length d.columns → IsSome (column_greatest d y j)
  pub logicals_finite : (i : ℕ) → i < length d.rows → IsSome (logical_greatest d y i)
  pub gap : sum_ℚ (length d.columns) (λ j. unwrap_or (column_greatest d y j) zero_ℚ) +ℚ sum_ℚ (length d.rows) (λ i. unwrap_or (logical_greatest d y i) zero_ℚ) <ℚ weighted_right d y

-- along r every point from x stays feasible, and the cost gets better without end
pub record Ray (d : Deck) (x r : List ℚ) : Type 0 where
  pub feasible : IsFeasible d x
  pub one_each : length r ≡ length d.columns
  pub column_rises : (j : ℕ) → j < length d.columns → zero_ℚ <ℚ at r j → (column d j).bounds.upper ≡ None
  pub column_falls : (j : ℕ) → j < length d.columns → at r j <ℚ zero_ℚ → (column d j).bounds.lower ≡ None
  pub row_rises : (i : ℕ) → i < length d.rows → zero_ℚ <ℚ activity d r i → (activity_interval (row d i)).upper ≡ None
  pub row_falls : (i : ℕ) → i < length d.rows → activity d r i <ℚ zero_ℚ → (activity_interval (row d i)).lower ≡ None
  pub cost_falls : in_sense d.sense (cost_at d r) <ℚ zero_ℚ
