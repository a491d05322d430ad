-- A Farkas row proves that no point is feasible: what it combines of the rows exceeds all that the bounds allow.
use Rattle.std.proofs.Common.{◌≡◌, ℕ, List, length, Option, Some, None, IsSome, refl, sym, ◌∙◌, subst, arith}
use Rattle.std.proofs.lemmas.Int.{ints}
use Rattle.std.specs.Option.{unwrap_or}
use Rattle.std.specs.declared.cmp.Ordering.{Ordering}
use Rattle.std.specs.declared.cmp.Ordering.TheVariants.{Less, Equal, Greater}
use Rattle.lp_model.specs.declared.RowKind.{RowKind}
use Rattle.lp_model.specs.declared.RowKind.TheVariants.{L, G, E}
use Rattle.rational.specs.Rational.{ℚ, zero_ℚ, ◌+ℚ◌, ◌-ℚ◌, ◌*ℚ◌, neg_ℚ, abs_ℚ, cmp_ℚ, ◌≤ℚ◌, ◌<ℚ◌}
use Rattle.rational.proofs.RationalRing.{ring_ℚ}
use Rattle.rational.proofs.Ring.{◌≐◌, ◌⊙◌≗◌⟹◌, ◌⊕◌, ◌⊖◌, ◌⊗◌, ⊝◌, 𝟘}
use Rattle.rational.proofs.Linear.{linear, ◌≼◌, ◌≺◌, ◌≐◌, ◌⟹◌, never}
use Rattle.rational.specs.Sum.{sum_ℚ, at}
use Rattle.rational.proofs.ProductOrder.{*ℚ_mono, product-turned}
use Rattle.rational.proofs.OrderLaws.{by_cmp}
use Rattle.rational.proofs.SumLaws.{sum-cong, sum-sub, sum-mono}
use Rattle.lp_model.specs.Certificate.{Farkas, column_greatest, greatest, logical_greatest, weighted_column, weighted_right}
use Rattle.lp_model.specs.Deck.{Deck, Interval, IsFeasible, Within, activity, activity_interval_of, between, column, logical_bounds, logical_bounds_of, row}
use Rattle.lp_laws.proofs.Sums.{priced_part, weighted_part}

-- ── the greatest value of a product over an interval ──

-- the product with an end, where there is one
abbrev product_with : ℚ → Option ℚ → Option ℚ
product_with c None = None
product_with c (Some v) = Some (c *ℚ v)

-- the greatest value by the sign of the factor
abbrev greatest_by : Ordering → ℚ → Option ℚ → Option ℚ → Option ℚ
greatest_by o c lower upper = elim o [ Less ↦ product_with c lower | Equal ↦ Some zero_ℚ | Greater ↦ product_with c upper ]

-- a number is not above the value of an option that has one
abbrev IsBelow : ℚ → Option ℚ → Type 0
IsBelow p o = IsSome o → p ≤ℚ unwrap_or o zero_ℚ

module _ (c t : ℚ) where
  falling : (lower upper : Option ℚ) → Within (record { lower = lower; upper = upper }) t → c <ℚ zero_ℚ → IsBelow (c *ℚ t) (greatest_by Less c lower upper)
  falling None upper within sign some = absurd (cc some)
  falling (Some l) upper within sign some =
      product-turned c l t (linear 1 (λ c. c ≺ 𝟘 ⟹ c ≼ 𝟘) (omega (arith, ints)) c sign) within.0

  still : (lower upper : Option ℚ) → c ≡ zero_ℚ → IsBelow (c *ℚ t) (greatest_by Equal c lower upper)
  still lower upper e some = linear 1 (λ p. p ≐ 𝟘 ⟹ p ≼ 𝟘) (omega (arith, ints)) (c *ℚ t) (ring_ℚ 2 (λ c x. x ⊙ c ≗ 𝟘 ⟹ c ⊗ x ≐ 𝟘) tt c t e)

  rising : (lower upper : Option ℚ) → Within (record { lower = lower; upper = upper }) t → zero_ℚ <ℚ c → IsBelow (c *ℚ t) (greatest_by Greater c lower upper)
  rising lower None within sign some = absurd (cc some)
  rising lower (Some u) within sign some = *ℚ_mono c t u (linear 1 (λ c. 𝟘 ≺ c ⟹ 𝟘 ≼ c) (omega (arith, ints)) c sign) within.1

  greatest_is : (lower upper : Option ℚ) → greatest c (record { lower = lower; upper = upper }) ≡ greatest_by (cmp_ℚ c zero_ℚ) c lower upper
  greatest_is None None = refl
  greatest_is None (Some u) = refl
  greatest_is (Some l) None = refl
  greatest_is (Some l) (Some u) = refl

  -- no number of an interval has a greater product
  greatest_is_above : (i : Interval) → Within i t → IsBelow (c *ℚ t) (greatest c i)
  greatest_is_above i within =
      subst (IsBelow (c *ℚ t)) (sym (greatest_is i.lower i.upper))
      (by_cmp (λ o. IsBelow (c *ℚ t) (greatest_by o c i.lower i.upper)) c zero_ℚ
      (falling i.lower i.upper within) (still i.lower i.upper) (rising i.lower i.upper within))

-- ── a row's logical at a point ──

module _ (b a : ℚ) where
  -- the two ends of a range, from the right side down or up
  ranged_down : (r : ℚ) → Within (between (b -ℚ r) b) a → Within (between zero_ℚ r) (b -ℚ a)
  ranged_down r within = (
    linear 2 (λ a b. a ≼ b ⟹ 𝟘 ≼ b ⊖ a) (omega (arith, ints)) a b within.1,
    linear 3 (λ a b r. b ⊖ r ≼ a ⟹ b ⊖ a ≼ r) (omega (arith, ints)) a b r within.0,
  )

  ranged_up : (r : ℚ) → Within (between b (b +ℚ r)) a → Within (between (neg_ℚ r) zero_ℚ) (b -ℚ a)
  ranged_up r within = (
    linear 3 (λ a b r. a ≼ b ⊕ r ⟹ ⊝ r ≼ b ⊖ a) (omega (arith, ints)) a b r within.1,
    linear 2 (λ a b. b ≼ a ⟹ b ⊖ a ≼ 𝟘) (omega (arith, ints)) a b within.0,
  )

  fixed : Within (between b b) a → Within (between zero_ℚ zero_ℚ) (b -ℚ a)
  fixed within = (
    linear 2 (λ a b. a ≼ b ⟹ 𝟘 ≼ b ⊖ a) (omega (arith, ints)) a b within.1,
    linear 2 (λ a b. b ≼ a ⟹ b ⊖ a ≼ 𝟘) (omega (arith, ints)) a b within.0,
  )

  by_sign : (o : Ordering) (r : ℚ)
      → Within (elim o [ Less ↦ between (b -ℚ abs_ℚ r) b | Equal ↦ between b b | Greater ↦ between b (b +ℚ r) ]) a
      → Within (elim o [ Less ↦ between zero_ℚ (abs_ℚ r) | Equal ↦ between zero_ℚ zero_ℚ | Greater ↦ between (neg_ℚ r) zero_ℚ ]) (b -ℚ a)
  by_sign Less r within = ranged_down (abs_ℚ r) within
  by_sign Equal r within = fixed within
  by_sign Greater r within = ranged_up r within

  -- where the activity is within its interval, the right side less the activity is within the logical's bounds
  logical_within : (kind : RowKind) (range : Option ℚ) → Within (activity_interval_of kind b range) a → Within (logical_bounds_of kind range) (b -ℚ a)
  logical_within L None within = (linear 2 (λ a b. a ≼ b ⟹ 𝟘 ≼ b ⊖ a) (omega (arith, ints)) a b within.1, tt)
  logical_within L (Some r) within = ranged_down (abs_ℚ r) within
  logical_within G None within = (tt, linear 2 (λ a b. b ≼ a ⟹ b ⊖ a ≼ 𝟘) (omega (arith, ints)) a b within.0)
  logical_within G (Some r) within = ranged_up (abs_ℚ r) within
  logical_within E None within = fixed within
  logical_within E (Some r) within = by_sign (cmp_ℚ r zero_ℚ) r within

-- ── the gap ──

module _ (d : Deck) (y : List ℚ) (farkas : Farkas d y) (x : List ℚ) (feasible : IsFeasible d x) where
  abbrev logical : ℕ → ℚ
  logical i = (row d i).right -ℚ activity d x i

  columns_below : priced_part d y x ≤ℚ sum_ℚ (length d.columns) (λ j. unwrap_or (column_greatest d y j) zero_ℚ)
  columns_below =
      subst (λ s. s ≤ℚ sum_ℚ (length d.columns) (λ j. unwrap_or (column_greatest d y j) zero_ℚ)) (weighted_part d y x)
      (sum-mono (length d.columns) (λ j. weighted_column d y j *ℚ at x j) (λ j. unwrap_or (column_greatest d y j) zero_ℚ)
      (λ j b. greatest_is_above (weighted_column d y j) (at x j) (column d j).bounds (feasible.columns_within j b) (farkas.columns_finite j b)))

  logicals_below : sum_ℚ (length d.rows) (λ i. at y i *ℚ logical i) ≤ℚ sum_ℚ (length d.rows) (λ i. unwrap_or (logical_greatest d y i) zero_ℚ)
  logicals_below =
      sum-mono (length d.rows) (λ i. at y i *ℚ logical i) (λ i. unwrap_or (logical_greatest d y i) zero_ℚ)
      (λ i b. greatest_is_above (at y i) (logical i) (logical_bounds (row d i))
      (logical_within (row d i).right (activity d x i) (row d i).kind (row d i).range (feasible.rows_within i b)) (farkas.logicals_finite i b))

  -- the prices of the logicals are those of the right sides less those of the activities
  priced_logicals : sum_ℚ (length d.rows) (λ i. at y i *ℚ logical i) ≡ weighted_right d y -ℚ priced_part d y x
  priced_logicals =
      sum-cong (length d.rows) (λ i. at y i *ℚ logical i) (λ i. at y i *ℚ (row d i).right -ℚ at y i *ℚ activity d x i)
      (λ i b. ring_ℚ 3 (λ y r a. y ⊗ (r ⊖ a) ≐ y ⊗ r ⊖ y ⊗ a) tt (at y i) (row d i).right (activity d x i))
      ∙ sum-sub (length d.rows) (λ i. at y i *ℚ (row d i).right) (λ i. at y i *ℚ activity d x i)

  crossed : ⊥
  crossed =
      linear 5 (λ p c l g r. p ≼ c ⟹ l ≼ g ⟹ l ≐ r ⊖ p ⟹ c ⊕ g ≺ r ⟹ never) (omega (arith, ints))
      (priced_part d y x) (sum_ℚ (length d.columns) (λ j. unwrap_or (column_greatest d y j) zero_ℚ))
      (sum_ℚ (length d.rows) (λ i. at y i *ℚ logical i)) (sum_ℚ (length d.rows) (λ i. unwrap_or (logical_greatest d y i) zero_ℚ)) (weighted_right d y)
      columns_below logicals_below priced_logicals farkas.gap

-- a deck that has a Farkas row has no feasible point
pub gap : (d : Deck) (y : List ℚ) → Farkas d y → (x : List ℚ) → ¬ IsFeasible d x
gap d y farkas x feasible = crossed d y farkas x feasible
