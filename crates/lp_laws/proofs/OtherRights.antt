-- Prices that prove an optimum of a deck leave no ray of a deck with other right sides.
use Rattle.std.proofs.Common.{◌≡◌, ℕ, ◌<◌, List, length, Option, Some, None, refl, sym, ◌∙◌, ap, subst, arith}
use Rattle.std.proofs.lemmas.Int.{ints}
use Rattle.std.proofs.lemmas.Option.{none-some}
use Rattle.std.specs.declared.cmp.Ordering.{Ordering}
use Rattle.std.specs.declared.cmp.Ordering.TheVariants.{Less, Equal, Greater}
use Rattle.lp_model.specs.declared.RowKind.{RowKind}
use Rattle.lp_model.specs.declared.RowKind.TheVariants.{L, G, E}
use Rattle.rational.specs.Rational.{ℚ, zero_ℚ, ◌+ℚ◌, ◌-ℚ◌, ◌*ℚ◌, abs_ℚ, ◌≤ℚ◌, ◌<ℚ◌}
use Rattle.rational.proofs.RationalRing.{ring_ℚ}
use Rattle.rational.proofs.Ring.{◌≐◌, ◌⊙◌≗◌⟹◌, ◌⊕◌, ◌⊗◌, 𝟘}
use Rattle.rational.proofs.Linear.{linear, ◌≼◌, ◌≺◌, ◌≐◌, ◌⟹◌, never}
use Rattle.rational.specs.Sum.{sum_ℚ, at}
use Rattle.rational.proofs.ProductOrder.{*ℚ_nonnegative, product-turned}
use Rattle.rational.proofs.OrderLaws.{by_cmp, by_lt_ℚ}
use Rattle.rational.proofs.SumLaws.{sum-mono, sum-none}
use Rattle.lp_model.specs.Certificate.{Proves, Ray, reduced_cost}
use Rattle.lp_model.specs.Deck.{Deck, Interval, Row, activity, activity_interval, activity_interval_of, between, column, cost_at, in_sense, row}
use Rattle.lp_laws.specs.Rights.{IsSameButRights}
use Rattle.lp_laws.proofs.WeakDuality.{parts, price_part, reduced_part}

-- ── whether the interval of an activity has an end is told by the row's kind and range ──

-- an equality's interval, by how its range compares with 0
abbrev in_order : ℚ → ℚ → Ordering → Interval
in_order b r o = elim o [ Less ↦ between (b -ℚ abs_ℚ r) b | Equal ↦ between b b | Greater ↦ between b (b +ℚ r) ]

lower_alike : (k : RowKind) (b b' : ℚ) (r : Option ℚ) → (activity_interval_of k b' r).lower ≡ None → (activity_interval_of k b r).lower ≡ None
lower_alike L b b' None e = refl
lower_alike L b b' (Some r) e = absurd (none-some _ (sym e))
lower_alike G b b' None e = absurd (none-some _ (sym e))
lower_alike G b b' (Some r) e = absurd (none-some _ (sym e))
lower_alike E b b' None e = absurd (none-some _ (sym e))
lower_alike E b b' (Some r) e =
    absurd (by_cmp (λ o. (in_order b' r o).lower ≡ None → ⊥) r zero_ℚ
    (λ _ e. none-some _ (sym e)) (λ _ e. none-some _ (sym e)) (λ _ e. none-some _ (sym e)) e)

upper_alike : (k : RowKind) (b b' : ℚ) (r : Option ℚ) → (activity_interval_of k b' r).upper ≡ None → (activity_interval_of k b r).upper ≡ None
upper_alike G b b' None e = refl
upper_alike G b b' (Some r) e = absurd (none-some _ (sym e))
upper_alike L b b' None e = absurd (none-some _ (sym e))
upper_alike L b b' (Some r) e = absurd (none-some _ (sym e))
upper_alike E b b' None e = absurd (none-some _ (sym e))
upper_alike E b b' (Some r) e =
    absurd (by_cmp (λ o. (in_order b' r o).upper ≡ None → ⊥) r zero_ℚ
    (λ _ e. none-some _ (sym e)) (λ _ e. none-some _ (sym e)) (λ _ e. none-some _ (sym e)) e)

-- ── a factor that is not 0 only at an end, and a move that is not 0 only where there is no end ──

same_sign : (c r v : ℚ) (i : Interval) → (zero_ℚ <ℚ c → i.lower ≡ Some v) → (c <ℚ zero_ℚ → i.upper ≡ Some v)
    → (r <ℚ zero_ℚ → i.lower ≡ None) → (zero_ℚ <ℚ r → i.upper ≡ None) → zero_ℚ ≤ℚ c *ℚ r
same_sign c r v i low high falls rises =
    by_lt_ℚ zero_ℚ c
    (λ above. by_lt_ℚ r zero_ℚ (λ down. absurd (none-some v (sym (falls down) ∙ low above)))
    (λ up. *ℚ_nonnegative c r (linear 1 (λ c. 𝟘 ≺ c ⟹ 𝟘 ≼ c) (omega (arith, ints)) c above) up))
    (λ not_above. by_lt_ℚ zero_ℚ r (λ up. by_lt_ℚ c zero_ℚ (λ below. absurd (none-some v (sym (rises up) ∙ high below)))
    (λ not_below. nothing (linear 1 (λ c. c ≼ 𝟘 ⟹ 𝟘 ≼ c ⟹ c ≐ 𝟘) (omega (arith, ints)) c not_above not_below)))
    (λ down. linear 2 (λ z p. z ≐ 𝟘 ⟹ z ≼ p ⟹ 𝟘 ≼ p) (omega (arith, ints)) (c *ℚ zero_ℚ) (c *ℚ r) (ring_ℚ 1 (λ c. c ⊗ 𝟘 ≐ 𝟘) tt c) (product-turned c r zero_ℚ not_above down)))
  where
    nothing : c ≡ zero_ℚ → zero_ℚ ≤ℚ c *ℚ r
    nothing e = linear 1 (λ p. p ≐ 𝟘 ⟹ 𝟘 ≼ p) (omega (arith, ints)) (c *ℚ r) (ring_ℚ 2 (λ c r. r ⊙ c ≗ 𝟘 ⟹ c ⊗ r ≐ 𝟘) tt c r e)

sum_up : (n : ℕ) (f : ℕ → ℚ) → ((i : ℕ) → i < n → zero_ℚ ≤ℚ f i) → zero_ℚ ≤ℚ sum_ℚ n f
sum_up n f up =
    linear 2 (λ z s. z ≐ 𝟘 ⟹ z ≼ s ⟹ 𝟘 ≼ s) (omega (arith, ints)) (sum_ℚ n (λ _. zero_ℚ)) (sum_ℚ n f) (sum-none n (λ _. zero_ℚ) (λ i b. refl))
    (sum-mono n (λ _. zero_ℚ) f up)

-- ── the deck with other rows ──

module _ (d : Deck) (x y x' r : List ℚ) (proves : Proves d x y) (rows' : List Row) (same : IsSameButRights d (record d { rows = rows' }))
    (ray : Ray (record d { rows = rows' }) x' r) where
  abbrev d' : Deck
  d' = record d { rows = rows' }

  lower_none : (i : ℕ) → i < length d.rows → (activity_interval (row d' i)).lower ≡ None → (activity_interval (row d i)).lower ≡ None
  lower_none i b e =
      lower_alike (row d i).kind (row d i).right (row d' i).right (row d i).range (sym (ap (λ w. (activity_interval w).lower) (same.rows i b)) ∙ e)

  upper_none : (i : ℕ) → i < length d.rows → (activity_interval (row d' i)).upper ≡ None → (activity_interval (row d i)).upper ≡ None
  upper_none i b e =
      upper_alike (row d i).kind (row d i).right (row d' i).right (row d i).range (sym (ap (λ w. (activity_interval w).upper) (same.rows i b)) ∙ e)

  counted : (i : ℕ) → i < length d.rows → i < length rows'
  counted i b = subst (λ n. i < n) (sym same.count) b

  reduced_up : zero_ℚ ≤ℚ reduced_part d y r
  reduced_up =
      sum_up (length d.columns) (λ j. in_sense d.sense (reduced_cost d y j) *ℚ at r j)
      (λ j b. same_sign (in_sense d.sense (reduced_cost d y j)) (at r j) (at x j) (column d j).bounds (proves.above j b) (proves.below j b) (ray.column_falls j b) (ray.column_rises j b))

  price_up : zero_ℚ ≤ℚ price_part d y r
  price_up =
      sum_up (length d.rows) (λ i. in_sense d.sense (at y i) *ℚ activity d r i)
      (λ i b. same_sign (in_sense d.sense (at y i)) (activity d r i) (activity d x i) (activity_interval (row d i)) (proves.price_above i b) (proves.price_below i b)
      (λ down. lower_none i b (ray.row_falls i (counted i b) down)) (λ up. upper_none i b (ray.row_rises i (counted i b) up)))

  no_ray : ⊥
  no_ray =
      linear 3 (λ c p q. c ≐ p ⊕ q ⟹ 𝟘 ≼ p ⟹ 𝟘 ≼ q ⟹ c ≺ 𝟘 ⟹ never) (omega (arith, ints)) (in_sense d.sense (cost_at d r)) (reduced_part d y r) (price_part d y r)
      (parts d y r) reduced_up price_up ray.cost_falls

-- a deck with other right sides than one whose optimum is proved has no ray
pub bounded : (d d' : Deck) (x y x' r : List ℚ) → Proves d x y → IsSameButRights d d' → Ray d' x' r → ⊥
bounded d d' x y x' r proves same ray =
    no_ray d x y x' r proves d'.rows (subst (IsSameButRights d) same.deck same) (subst (λ e. Ray e x' r) same.deck ray)
