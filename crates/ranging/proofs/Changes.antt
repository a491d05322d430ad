-- The changes that one column leaves, those that one position leaves, and those of two intervals in common.
use Rattle.std.proofs.Common.{◌≡◌, ◌≢◌, ◌↔◌, Bool, true, false, cond, Option, Some, None, refl, sym, ◌∙◌, subst, arith}
use Rattle.std.proofs.lemmas.Int.{ints}
use Rattle.std.specs.Option.{option_map}
use Rattle.std.specs.declared.cmp.Ordering.{Ordering}
use Rattle.std.specs.declared.cmp.Ordering.TheVariants.{Less, Equal, Greater}
use Rattle.lp_model.specs.declared.Sense.{Sense}
use Rattle.lp_model.specs.declared.Sense.TheVariants.{Max, Min}
use Rattle.lp_model.specs.declared.Status.{Status}
use Rattle.lp_model.specs.declared.Status.TheVariants as status
use Rattle.lp_model.specs.Deck.{Interval, NotAbove, NotBelow, Within, in_sense}
use Rattle.rational.specs.Rational.{ℚ, zero_ℚ, ◌+ℚ◌, ◌-ℚ◌, ◌*ℚ◌, ◌/ℚ◌, neg_ℚ, lt_ℚ, ◌≤ℚ◌, ◌<ℚ◌}
use Rattle.rational.proofs.FieldLaws.{/ℚ-*ℚ}
use Rattle.rational.proofs.RationalRing.{ring_ℚ}
use Rattle.rational.proofs.Ring.{◌≐◌, ◌⊙◌≗◌⟹◌, ◌⊕◌, ◌⊖◌, ◌⊗◌, ⊝◌, 𝟘, 𝟙}
use Rattle.rational.proofs.Linear.{linear, ◌≼◌, ◌≺◌, ◌≐◌, ◌⟹◌, never}
use Rattle.rational.proofs.OrderLaws.{above_from_test, by_cmp, by_lt_ℚ, lt_ℚ-above}
use Rattle.rational.proofs.ProductOrder.{*ℚ_nonnegative, *ℚ_positive}
use Rattle.lp_run.specs.Step.{Improves}
use Rattle.ranging.specs.Inner.Limits.{counted, cost_limit, end_over, ends_over, greater_end, lesser_end, limit_by, meet, turned, value_limit}
use Rattle.ranging.specs.Ranges.{everything}

-- ── a number has the sign of its product with a number above 0 ──

module _ (k x e : ℚ) (above : zero_ℚ <ℚ k) (is : e ≡ x *ℚ k) where
  stays_up : zero_ℚ ≤ℚ x → zero_ℚ ≤ℚ e
  stays_up h = subst (λ z. zero_ℚ ≤ℚ z) (sym is) (*ℚ_nonnegative x k h (linear 1 (λ k. 𝟘 ≺ k ⟹ 𝟘 ≼ k) (omega (arith, ints)) k above))

  turned_is : neg_ℚ x *ℚ k ≡ neg_ℚ e
  turned_is = ring_ℚ 3 (λ x k e. 𝟙 ⊙ e ≗ x ⊗ k ⟹ ⊝ x ⊗ k ≐ ⊝ e) tt x k e is

  goes_down : x <ℚ zero_ℚ → e <ℚ zero_ℚ
  goes_down h =
      linear 2 (λ e p. p ≐ ⊝ e ⟹ 𝟘 ≺ p ⟹ e ≺ 𝟘) (omega (arith, ints)) e (neg_ℚ x *ℚ k) turned_is
      (*ℚ_positive (neg_ℚ x) k (linear 1 (λ x. x ≺ 𝟘 ⟹ 𝟘 ≺ ⊝ x) (omega (arith, ints)) x h) above)

  goes_up : zero_ℚ <ℚ x → zero_ℚ <ℚ e
  goes_up h = subst (λ z. zero_ℚ <ℚ z) (sym is) (*ℚ_positive x k h above)

  pub up_same : (zero_ℚ ≤ℚ e) ↔ (zero_ℚ ≤ℚ x)
  up_same = (
    λ h. by_lt_ℚ x zero_ℚ (λ below. absurd (linear 1 (λ e. 𝟘 ≼ e ⟹ e ≺ 𝟘 ⟹ never) (omega (arith, ints)) e h (goes_down below))) (λ g. g),
    stays_up,
  )

  pub down_same : (e ≤ℚ zero_ℚ) ↔ (x ≤ℚ zero_ℚ)
  down_same = (
    λ h. by_lt_ℚ zero_ℚ x (λ up. absurd (linear 1 (λ e. e ≼ 𝟘 ⟹ 𝟘 ≺ e ⟹ never) (omega (arith, ints)) e h (goes_up up))) (λ g. g),
    λ h. linear 2 (λ e p. p ≐ ⊝ e ⟹ 𝟘 ≼ p ⟹ e ≼ 𝟘) (omega (arith, ints)) e (neg_ℚ x *ℚ k) turned_is
        (*ℚ_nonnegative (neg_ℚ x) k (linear 1 (λ x. x ≼ 𝟘 ⟹ 𝟘 ≼ ⊝ x) (omega (arith, ints)) x h) (linear 1 (λ k. 𝟘 ≺ k ⟹ 𝟘 ≼ k) (omega (arith, ints)) k above)),
  )

  -- not below 0, not above 0, and nothing but 0
  pub not_below : (e <ℚ zero_ℚ → ⊥) ↔ (zero_ℚ ≤ℚ x)
  not_below = (
    λ n. by_lt_ℚ x zero_ℚ (λ h. absurd (n (goes_down h))) (λ h. h),
    λ h below. linear 1 (λ e. 𝟘 ≼ e ⟹ e ≺ 𝟘 ⟹ never) (omega (arith, ints)) e (stays_up h) below,
  )

  pub not_above : (zero_ℚ <ℚ e → ⊥) ↔ (x ≤ℚ zero_ℚ)
  not_above = (
    λ n. by_lt_ℚ zero_ℚ x (λ h. absurd (n (goes_up h))) (λ h. h),
    λ h up. linear 1 (λ e. e ≼ 𝟘 ⟹ 𝟘 ≺ e ⟹ never) (omega (arith, ints)) e (down_same.1 h) up,
  )

  pub not_other : (e ≢ zero_ℚ → ⊥) ↔ (x ≡ zero_ℚ)
  not_other = (
    λ n. linear 1 (λ x. x ≼ 𝟘 ⟹ 𝟘 ≼ x ⟹ x ≐ 𝟘) (omega (arith, ints)) x
        (by_lt_ℚ zero_ℚ x (λ h. absurd (n (λ none. linear 1 (λ e. e ≐ 𝟘 ⟹ 𝟘 ≺ e ⟹ never) (omega (arith, ints)) e none (goes_up h)))) (λ h. h))
        (by_lt_ℚ x zero_ℚ (λ h. absurd (n (λ none. linear 1 (λ e. e ≐ 𝟘 ⟹ e ≺ 𝟘 ⟹ never) (omega (arith, ints)) e none (goes_down h)))) (λ h. h)),
    λ none n. n (is ∙ ring_ℚ 2 (λ x k. k ⊙ x ≗ 𝟘 ⟹ x ⊗ k ≐ 𝟘) tt x k none),
  )

-- ── one column ──

module _ (d r t : ℚ) where
  q : ℚ
  q = d /ℚ r

  e : ℚ
  e = d -ℚ t *ℚ r

  abbrev Kept : Status → Ordering → Type 0
  Kept st o = (Improves st (d -ℚ t *ℚ r) → ⊥) ↔ Within (limit_by st o (d /ℚ r)) t

  not_zero_up : zero_ℚ <ℚ r → r ≢ zero_ℚ
  not_zero_up h none = linear 1 (λ r. r ≐ 𝟘 ⟹ 𝟘 ≺ r ⟹ never) (omega (arith, ints)) r none h

  not_zero_down : r <ℚ zero_ℚ → r ≢ zero_ℚ
  not_zero_down h none = linear 1 (λ r. r ≐ 𝟘 ⟹ r ≺ 𝟘 ⟹ never) (omega (arith, ints)) r none h

  -- what is left of d, by the distance of t from the quotient
  rises : zero_ℚ <ℚ r → d -ℚ t *ℚ r ≡ (d /ℚ r -ℚ t) *ℚ r
  rises h = ring_ℚ 4 (λ d r t q. ⊝ 𝟙 ⊙ q ⊗ r ≗ d ⟹ d ⊖ t ⊗ r ≐ (q ⊖ t) ⊗ r) tt d r t (d /ℚ r) (/ℚ-*ℚ d r (not_zero_up h))

  falls : r <ℚ zero_ℚ → d -ℚ t *ℚ r ≡ (t -ℚ d /ℚ r) *ℚ neg_ℚ r
  falls h = ring_ℚ 4 (λ d r t q. ⊝ 𝟙 ⊙ q ⊗ r ≗ d ⟹ d ⊖ t ⊗ r ≐ (t ⊖ q) ⊗ ⊝ r) tt d r t (d /ℚ r) (/ℚ-*ℚ d r (not_zero_down h))

  opposite : r <ℚ zero_ℚ → zero_ℚ <ℚ neg_ℚ r
  opposite h = linear 1 (λ r. r ≺ 𝟘 ⟹ 𝟘 ≺ ⊝ r) (omega (arith, ints)) r h

  still : r ≡ zero_ℚ → d -ℚ t *ℚ r ≡ d
  still none = ring_ℚ 3 (λ d t r. ⊝ t ⊙ r ≗ 𝟘 ⟹ d ⊖ t ⊗ r ≐ d) tt d t r none

  always : (st : Status) → (Improves st d → ⊥) → r ≡ zero_ℚ → (Improves st (d -ℚ t *ℚ r) → ⊥) ↔ Within everything t
  always st calm none = (λ _. (tt, tt), λ _ h. calm (subst (Improves st) (still none) h))

  at_lower : (zero_ℚ ≤ℚ t -ℚ d /ℚ r) ↔ (d /ℚ r ≤ℚ t)
  at_lower = (λ h. linear 2 (λ t q. 𝟘 ≼ t ⊖ q ⟹ q ≼ t) (omega (arith, ints)) t (d /ℚ r) h, λ h. linear 2 (λ t q. q ≼ t ⟹ 𝟘 ≼ t ⊖ q) (omega (arith, ints)) t (d /ℚ r) h)

  by_sign : (st : Status) → (Improves st d → ⊥) → (r <ℚ zero_ℚ → Kept st Less) → (zero_ℚ <ℚ r → Kept st Greater) → ((limit_by st Equal (d /ℚ r)) ≡ everything)
      → (Improves st (d -ℚ t *ℚ r) → ⊥) ↔ Within (cost_limit st d r) t
  by_sign st calm less more equal =
      by_cmp (Kept st) r zero_ℚ less (λ none. subst (λ i. (Improves st (d -ℚ t *ℚ r) → ⊥) ↔ Within i t) (sym equal) (always st calm none)) more

  -- a reduced cost that does not improve still does not, where it falls by t times r, exactly within the limit
  pub costs_stay : (st : Status) → (Improves st d → ⊥) → (Improves st (d -ℚ t *ℚ r) → ⊥) ↔ Within (cost_limit st d r) t
  costs_stay status.Basic calm = (λ _. (tt, tt), λ _ h. h)
  costs_stay status.Lower calm =
      by_sign status.Lower calm
      (λ h. let is = not_below (neg_ℚ r) (t -ℚ d /ℚ r) (d -ℚ t *ℚ r) (opposite h) (falls h) in (
        λ n. (linear 2 (λ t q. 𝟘 ≼ t ⊖ q ⟹ q ≼ t) (omega (arith, ints)) t (d /ℚ r) (is.0 n), tt),
        λ i. is.1 (linear 2 (λ t q. q ≼ t ⟹ 𝟘 ≼ t ⊖ q) (omega (arith, ints)) t (d /ℚ r) i.0),
      ))
      (λ h. let is = not_below r (d /ℚ r -ℚ t) (d -ℚ t *ℚ r) h (rises h) in (
        λ n. (tt, linear 2 (λ t q. 𝟘 ≼ q ⊖ t ⟹ t ≼ q) (omega (arith, ints)) t (d /ℚ r) (is.0 n)),
        λ i. is.1 (linear 2 (λ t q. t ≼ q ⟹ 𝟘 ≼ q ⊖ t) (omega (arith, ints)) t (d /ℚ r) i.1),
      ))
      refl
  costs_stay status.Upper calm =
      by_sign status.Upper calm
      (λ h. let is = not_above (neg_ℚ r) (t -ℚ d /ℚ r) (d -ℚ t *ℚ r) (opposite h) (falls h) in (
        λ n. (tt, linear 2 (λ t q. t ⊖ q ≼ 𝟘 ⟹ t ≼ q) (omega (arith, ints)) t (d /ℚ r) (is.0 n)),
        λ i. is.1 (linear 2 (λ t q. t ≼ q ⟹ t ⊖ q ≼ 𝟘) (omega (arith, ints)) t (d /ℚ r) i.1),
      ))
      (λ h. let is = not_above r (d /ℚ r -ℚ t) (d -ℚ t *ℚ r) h (rises h) in (
        λ n. (linear 2 (λ t q. q ⊖ t ≼ 𝟘 ⟹ q ≼ t) (omega (arith, ints)) t (d /ℚ r) (is.0 n), tt),
        λ i. is.1 (linear 2 (λ t q. q ≼ t ⟹ q ⊖ t ≼ 𝟘) (omega (arith, ints)) t (d /ℚ r) i.0),
      ))
      refl
  costs_stay status.Zero calm =
      by_sign status.Zero calm
      (λ h. let is = not_other (neg_ℚ r) (t -ℚ d /ℚ r) (d -ℚ t *ℚ r) (opposite h) (falls h) in (
        λ n. (linear 2 (λ t q. t ⊖ q ≐ 𝟘 ⟹ q ≼ t) (omega (arith, ints)) t (d /ℚ r) (is.0 n), linear 2 (λ t q. t ⊖ q ≐ 𝟘 ⟹ t ≼ q) (omega (arith, ints)) t (d /ℚ r) (is.0 n)),
        λ i. is.1 (linear 2 (λ t q. q ≼ t ⟹ t ≼ q ⟹ t ⊖ q ≐ 𝟘) (omega (arith, ints)) t (d /ℚ r) i.0 i.1),
      ))
      (λ h. let is = not_other r (d /ℚ r -ℚ t) (d -ℚ t *ℚ r) h (rises h) in (
        λ n. (linear 2 (λ t q. q ⊖ t ≐ 𝟘 ⟹ q ≼ t) (omega (arith, ints)) t (d /ℚ r) (is.0 n), linear 2 (λ t q. q ⊖ t ≐ 𝟘 ⟹ t ≼ q) (omega (arith, ints)) t (d /ℚ r) (is.0 n)),
        λ i. is.1 (linear 2 (λ t q. q ≼ t ⟹ t ≼ q ⟹ q ⊖ t ≐ 𝟘) (omega (arith, ints)) t (d /ℚ r) i.0 i.1),
      ))
      refl

-- ── one position ──

module _ (b g t : ℚ) where
  distance : (end : ℚ) → g ≢ zero_ℚ → (end -ℚ b) /ℚ g *ℚ g ≡ end -ℚ b
  distance end other = /ℚ-*ℚ (end -ℚ b) g other

  up_by : (end : ℚ) → zero_ℚ <ℚ g → b +ℚ t *ℚ g -ℚ end ≡ (t -ℚ (end -ℚ b) /ℚ g) *ℚ g
  up_by end h =
      ring_ℚ 5 (λ b g t l q. 𝟙 ⊙ q ⊗ g ≗ l ⊖ b ⟹ b ⊕ t ⊗ g ⊖ l ≐ (t ⊖ q) ⊗ g) tt b g t end ((end -ℚ b) /ℚ g)
      (distance end (λ none. linear 1 (λ g. g ≐ 𝟘 ⟹ 𝟘 ≺ g ⟹ never) (omega (arith, ints)) g none h))

  down_by : (end : ℚ) → g <ℚ zero_ℚ → b +ℚ t *ℚ g -ℚ end ≡ ((end -ℚ b) /ℚ g -ℚ t) *ℚ neg_ℚ g
  down_by end h =
      ring_ℚ 5 (λ b g t l q. 𝟙 ⊙ q ⊗ g ≗ l ⊖ b ⟹ b ⊕ t ⊗ g ⊖ l ≐ (q ⊖ t) ⊗ ⊝ g) tt b g t end ((end -ℚ b) /ℚ g)
      (distance end (λ none. linear 1 (λ g. g ≐ 𝟘 ⟹ g ≺ 𝟘 ⟹ never) (omega (arith, ints)) g none h))

  opposite_rate : g <ℚ zero_ℚ → zero_ℚ <ℚ neg_ℚ g
  opposite_rate h = linear 1 (λ g. g ≺ 𝟘 ⟹ 𝟘 ≺ ⊝ g) (omega (arith, ints)) g h

  lower_up : zero_ℚ <ℚ g → (o : Option ℚ) → NotBelow o (b +ℚ t *ℚ g) ↔ NotBelow (end_over o b g) t
  lower_up h None = (λ _. tt, λ _. tt)
  lower_up h (Some l) =
      let is = up_same g (t -ℚ (l -ℚ b) /ℚ g) (b +ℚ t *ℚ g -ℚ l) h (up_by l h) in (
        λ i. linear 2 (λ t q. 𝟘 ≼ t ⊖ q ⟹ q ≼ t) (omega (arith, ints)) t ((l -ℚ b) /ℚ g) (is.0 (linear 2 (λ v l. l ≼ v ⟹ 𝟘 ≼ v ⊖ l) (omega (arith, ints)) (b +ℚ t *ℚ g) l i)),
        λ i. linear 2 (λ v l. 𝟘 ≼ v ⊖ l ⟹ l ≼ v) (omega (arith, ints)) (b +ℚ t *ℚ g) l (is.1 (linear 2 (λ t q. q ≼ t ⟹ 𝟘 ≼ t ⊖ q) (omega (arith, ints)) t ((l -ℚ b) /ℚ g) i)),
      )

  upper_up : zero_ℚ <ℚ g → (o : Option ℚ) → NotAbove o (b +ℚ t *ℚ g) ↔ NotAbove (end_over o b g) t
  upper_up h None = (λ _. tt, λ _. tt)
  upper_up h (Some u) =
      let is = down_same g (t -ℚ (u -ℚ b) /ℚ g) (b +ℚ t *ℚ g -ℚ u) h (up_by u h) in (
        λ i. linear 2 (λ t q. t ⊖ q ≼ 𝟘 ⟹ t ≼ q) (omega (arith, ints)) t ((u -ℚ b) /ℚ g) (is.0 (linear 2 (λ v u. v ≼ u ⟹ v ⊖ u ≼ 𝟘) (omega (arith, ints)) (b +ℚ t *ℚ g) u i)),
        λ i. linear 2 (λ v u. v ⊖ u ≼ 𝟘 ⟹ v ≼ u) (omega (arith, ints)) (b +ℚ t *ℚ g) u (is.1 (linear 2 (λ t q. t ≼ q ⟹ t ⊖ q ≼ 𝟘) (omega (arith, ints)) t ((u -ℚ b) /ℚ g) i)),
      )

  lower_down : g <ℚ zero_ℚ → (o : Option ℚ) → NotBelow o (b +ℚ t *ℚ g) ↔ NotAbove (end_over o b g) t
  lower_down h None = (λ _. tt, λ _. tt)
  lower_down h (Some l) =
      let is = up_same (neg_ℚ g) ((l -ℚ b) /ℚ g -ℚ t) (b +ℚ t *ℚ g -ℚ l) (opposite_rate h) (down_by l h) in (
        λ i. linear 2 (λ t q. 𝟘 ≼ q ⊖ t ⟹ t ≼ q) (omega (arith, ints)) t ((l -ℚ b) /ℚ g) (is.0 (linear 2 (λ v l. l ≼ v ⟹ 𝟘 ≼ v ⊖ l) (omega (arith, ints)) (b +ℚ t *ℚ g) l i)),
        λ i. linear 2 (λ v l. 𝟘 ≼ v ⊖ l ⟹ l ≼ v) (omega (arith, ints)) (b +ℚ t *ℚ g) l (is.1 (linear 2 (λ t q. t ≼ q ⟹ 𝟘 ≼ q ⊖ t) (omega (arith, ints)) t ((l -ℚ b) /ℚ g) i)),
      )

  upper_down : g <ℚ zero_ℚ → (o : Option ℚ) → NotAbove o (b +ℚ t *ℚ g) ↔ NotBelow (end_over o b g) t
  upper_down h None = (λ _. tt, λ _. tt)
  upper_down h (Some u) =
      let is = down_same (neg_ℚ g) ((u -ℚ b) /ℚ g -ℚ t) (b +ℚ t *ℚ g -ℚ u) (opposite_rate h) (down_by u h) in (
        λ i. linear 2 (λ t q. q ⊖ t ≼ 𝟘 ⟹ q ≼ t) (omega (arith, ints)) t ((u -ℚ b) /ℚ g) (is.0 (linear 2 (λ v u. v ≼ u ⟹ v ⊖ u ≼ 𝟘) (omega (arith, ints)) (b +ℚ t *ℚ g) u i)),
        λ i. linear 2 (λ v u. v ⊖ u ≼ 𝟘 ⟹ v ≼ u) (omega (arith, ints)) (b +ℚ t *ℚ g) u (is.1 (linear 2 (λ t q. q ≼ t ⟹ q ⊖ t ≼ 𝟘) (omega (arith, ints)) t ((u -ℚ b) /ℚ g) i)),
      )

  abbrev limit_in : Interval → Ordering → Interval
  limit_in i o = elim o [ Less ↦ turned (ends_over i b g) | Equal ↦ everything | Greater ↦ ends_over i b g ]

  -- a value within an interval is within it still, where it rises by t times g, exactly within the limit
  pub values_stay : (i : Interval) → Within i b → Within i (b +ℚ t *ℚ g) ↔ Within (value_limit i b g) t
  values_stay i h =
      by_cmp (λ o. Within i (b +ℚ t *ℚ g) ↔ Within (limit_in i o) t) g zero_ℚ
      (λ less. let low = lower_down less i.lower in
      let high = upper_down less i.upper in
      (λ w. (high.0 w.1, low.0 w.0), λ w. (low.1 w.1, high.1 w.0)))
      (λ none. (λ _. (tt, tt), λ _. subst (Within i) (ring_ℚ 3 (λ b t g. ⊝ t ⊙ g ≗ 𝟘 ⟹ b ≐ b ⊕ t ⊗ g) tt b t g none) h))
      (λ more. let low = lower_up more i.lower in
      let high = upper_up more i.upper in
      (λ w. (low.0 w.0, high.0 w.1), λ w. (low.1 w.0, high.1 w.1)))

-- ── two intervals ──

below_both : (a b : Option ℚ) (t : ℚ) → NotBelow (greater_end a b) t ↔ (NotBelow a t × NotBelow b t)
below_both None b t = (λ h. (tt, h), λ h. h.1)
below_both (Some x) None t = (λ h. (h, tt), λ h. h.0)
below_both (Some x) (Some y) t = by_test (lt_ℚ x y) refl
  where
    by_test : (c : Bool) → lt_ℚ x y ≡ c → NotBelow (cond c (Some y) (Some x)) t ↔ ((x ≤ℚ t) × (y ≤ℚ t))
    by_test true e =
        (λ h. (by_lt_ℚ x y (λ l. linear 3 (λ x y t. x ≺ y ⟹ y ≼ t ⟹ x ≼ t) (omega (arith, ints)) x y t l h) (λ l. absurd (apart (sym e ∙ lt_ℚ-above x y l))), h), λ h. h.1)
      where
        apart : true ≡ false → ⊥
        apart e = cc e
    by_test false e = (λ h. (h, linear 3 (λ x y t. y ≼ x ⟹ x ≼ t ⟹ y ≼ t) (omega (arith, ints)) x y t (above_from_test x y e) h), λ h. h.0)

above_both : (a b : Option ℚ) (t : ℚ) → NotAbove (lesser_end a b) t ↔ (NotAbove a t × NotAbove b t)
above_both None b t = (λ h. (tt, h), λ h. h.1)
above_both (Some x) None t = (λ h. (h, tt), λ h. h.0)
above_both (Some x) (Some y) t = by_test (lt_ℚ y x) refl
  where
    by_test : (c : Bool) → lt_ℚ y x ≡ c → NotAbove (cond c (Some y) (Some x)) t ↔ ((t ≤ℚ x) × (t ≤ℚ y))
    by_test true e =
        (λ h. (by_lt_ℚ y x (λ l. linear 3 (λ x y t. y ≺ x ⟹ t ≼ y ⟹ t ≼ x) (omega (arith, ints)) x y t l h) (λ l. absurd (apart (sym e ∙ lt_ℚ-above y x l))), h), λ h. h.1)
      where
        apart : true ≡ false → ⊥
        apart e = cc e
    by_test false e = (λ h. (h, linear 3 (λ x y t. x ≼ y ⟹ t ≼ x ⟹ t ≼ y) (omega (arith, ints)) x y t (above_from_test y x e) h), λ h. h.0)

pub within_both : (a b : Interval) (t : ℚ) → Within (meet a b) t ↔ (Within a t × Within b t)
within_both a b t =
    let low = below_both a.lower b.lower t in
    let high = above_both a.upper b.upper t in
    (λ h. (((low.0 h.0).0, (high.0 h.1).0), ((low.0 h.0).1, (high.0 h.1).1)), λ h. (low.1 (h.0.0, h.1.0), high.1 (h.0.1, h.1.1)))

-- ── the sense ──

lower_turned : (o : Option ℚ) (t : ℚ) → NotBelow (option_map neg_ℚ o) t ↔ NotAbove o (neg_ℚ t)
lower_turned None t = (λ _. tt, λ _. tt)
lower_turned (Some u) t = (λ h. linear 2 (λ u t. ⊝ u ≼ t ⟹ ⊝ t ≼ u) (omega (arith, ints)) u t h, λ h. linear 2 (λ u t. ⊝ t ≼ u ⟹ ⊝ u ≼ t) (omega (arith, ints)) u t h)

upper_turned : (o : Option ℚ) (t : ℚ) → NotAbove (option_map neg_ℚ o) t ↔ NotBelow o (neg_ℚ t)
upper_turned None t = (λ _. tt, λ _. tt)
upper_turned (Some l) t = (λ h. linear 2 (λ l t. t ≼ ⊝ l ⟹ l ≼ ⊝ t) (omega (arith, ints)) l t h, λ h. linear 2 (λ l t. l ≼ ⊝ t ⟹ t ≼ ⊝ l) (omega (arith, ints)) l t h)

pub within_counted : (sense : Sense) (i : Interval) (t : ℚ) → Within (counted sense i) t ↔ Within i (in_sense sense t)
within_counted Min i t = (λ h. h, λ h. h)
within_counted Max i t =
    let low = lower_turned i.upper t in
    let high = upper_turned i.lower t in
    (λ h. (high.0 h.1, low.0 h.0), λ h. (low.1 h.1, high.1 h.0))
