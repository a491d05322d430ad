-- A row's activity against its logical: an interval and its mirror image in the right side.
use Rattle.std.proofs.Common.{◌≡◌, Option, Some, None, refl, sym, ◌∙◌, ap, subst, arith}
use Rattle.std.proofs.lemmas.Int.{ints}
use Rattle.std.specs.Option.{option_map}
use Rattle.std.specs.declared.cmp.Ordering.{Ordering}
use Rattle.std.specs.declared.cmp.Ordering.TheVariants.{Less, Equal, Greater}
use Rattle.lp_model.specs.declared.RowKind.{RowKind}
use Rattle.lp_model.specs.declared.RowKind.TheVariants.{L, G, E}
use Rattle.rational.specs.Rational.{ℚ, zero_ℚ, ◌+ℚ◌, ◌-ℚ◌, ◌*ℚ◌, neg_ℚ, abs_ℚ, cmp_ℚ, ◌<ℚ◌}
use Rattle.rational.proofs.OrderLaws.{by_cmp}
use Rattle.rational.proofs.RationalRing.{ring_ℚ}
use Rattle.rational.proofs.Ring.{◌≐◌, ◌⊙◌≗◌⟹◌, ◌⊕◌, ◌⊖◌, ◌⊗◌, ⊝◌, 𝟘}
use Rattle.rational.proofs.Linear.{linear, ◌≼◌, ◌⟹◌}
use Rattle.lp_model.specs.Certificate.{greatest}
use Rattle.lp_model.specs.Deck.{Interval, NotAbove, NotBelow, Within, activity_interval_of, between, logical_bounds_of}
use Rattle.bland_laws.proofs.Standing.{ends}

-- ── the mirror image ──

-- the ends of the one are the right side less the other ends of the other
pub record Mirrors (b : ℚ) (slack act : Interval) : Type 0 where
  pub low : act.lower ≡ option_map (λ v. b -ℚ v) slack.upper
  pub high : act.upper ≡ option_map (λ v. b -ℚ v) slack.lower

module _ (b : ℚ) where
  less_nothing : b ≡ b -ℚ zero_ℚ
  less_nothing = ring_ℚ 1 (λ b. b ≐ b ⊖ 𝟘) tt b

  down : (r : ℚ) → Mirrors b (between zero_ℚ r) (between (b -ℚ r) b)
  down r = record { low = refl; high = ap Some less_nothing }

  up : (r : ℚ) → Mirrors b (between (neg_ℚ r) zero_ℚ) (between b (b +ℚ r))
  up r = record { low = ap Some less_nothing; high = ap Some (ring_ℚ 2 (λ b r. b ⊕ r ≐ b ⊖ ⊝ r) tt b r) }

  fixed : Mirrors b (between zero_ℚ zero_ℚ) (between b b)
  fixed = record { low = ap Some less_nothing; high = ap Some less_nothing }

  by_sign : (o : Ordering) (r : ℚ) → Mirrors b (elim o [ Less ↦ between zero_ℚ (abs_ℚ r) | Equal ↦ between zero_ℚ zero_ℚ | Greater ↦ between (neg_ℚ r) zero_ℚ ])
      (elim o [ Less ↦ between (b -ℚ abs_ℚ r) b | Equal ↦ between b b | Greater ↦ between b (b +ℚ r) ])
  by_sign Less r = down (abs_ℚ r)
  by_sign Equal r = fixed
  by_sign Greater r = up r

  pub mirrors : (kind : RowKind) (range : Option ℚ) → Mirrors b (logical_bounds_of kind range) (activity_interval_of kind b range)
  mirrors L None = record { low = refl; high = ap Some less_nothing }
  mirrors L (Some r) = down (abs_ℚ r)
  mirrors G None = record { low = ap Some less_nothing; high = refl }
  mirrors G (Some r) = up (abs_ℚ r)
  mirrors E None = fixed
  mirrors E (Some r) = by_sign (cmp_ℚ r zero_ℚ) r

  back : (a : ℚ) → b -ℚ (b -ℚ a) ≡ a
  back a = ring_ℚ 2 (λ b a. b ⊖ (b ⊖ a) ≐ a) tt b a

  module _ (slack act : Interval) (m : Mirrors b slack act) (a : ℚ) where
    -- where the logical is within its bounds, the activity is within its interval
    pub mirror_within : Within slack (b -ℚ a) → Within act a
    mirror_within within = (
      subst (λ o. NotBelow o a) (sym m.low) (below slack.upper within.1),
      subst (λ o. NotAbove o a) (sym m.high) (above slack.lower within.0),
    )
      where
        below : (o : Option ℚ) → NotAbove o (b -ℚ a) → NotBelow (option_map (λ v. b -ℚ v) o) a
        below None h = tt
        below (Some u) h = linear 3 (λ b a u. b ⊖ a ≼ u ⟹ b ⊖ u ≼ a) (omega (arith, ints)) b a u h

        above : (o : Option ℚ) → NotBelow o (b -ℚ a) → NotAbove (option_map (λ v. b -ℚ v) o) a
        above None h = tt
        above (Some l) h = linear 3 (λ b a l. l ≼ b ⊖ a ⟹ a ≼ b ⊖ l) (omega (arith, ints)) b a l h

    pub mirror_low : slack.upper ≡ Some (b -ℚ a) → act.lower ≡ Some a
    mirror_low e = m.low ∙ ap (option_map (λ v. b -ℚ v)) e ∙ ap Some (back a)

    pub mirror_high : slack.lower ≡ Some (b -ℚ a) → act.upper ≡ Some a
    mirror_high e = m.high ∙ ap (option_map (λ v. b -ℚ v)) e ∙ ap Some (back a)

  pub mirror_no_low : (slack act : Interval) → Mirrors b slack act → slack.upper ≡ None → act.lower ≡ None
  mirror_no_low slack act m e = m.low ∙ ap (option_map (λ v. b -ℚ v)) e

  pub mirror_no_high : (slack act : Interval) → Mirrors b slack act → slack.lower ≡ None → act.upper ≡ None
  mirror_no_high slack act m e = m.high ∙ ap (option_map (λ v. b -ℚ v)) e

-- ── the greatest product over an interval ──

abbrev product_with : ℚ → Option ℚ → Option ℚ
product_with c None = None
product_with c (Some v) = Some (c *ℚ v)

abbrev greatest_by : Ordering → Option ℚ → Option ℚ → Option ℚ
greatest_by o low high = elim o [ Less ↦ low | Equal ↦ Some zero_ℚ | Greater ↦ high ]

greatest_is : (c : ℚ) (lower upper : Option ℚ) → greatest c (ends lower upper) ≡ greatest_by (cmp_ℚ c zero_ℚ) (product_with c lower) (product_with c upper)
greatest_is c None None = refl
greatest_is c None (Some u) = refl
greatest_is c (Some l) None = refl
greatest_is c (Some l) (Some u) = refl

-- it is met by a number that stands at the end which the factor favours
pub greatest_met : (c v : ℚ) (i : Interval) → (c <ℚ zero_ℚ → i.lower ≡ Some v) → (zero_ℚ <ℚ c → i.upper ≡ Some v) → greatest c i ≡ Some (c *ℚ v)
greatest_met c v i low high =
    greatest_is c i.lower i.upper
    ∙ by_cmp (λ o. greatest_by o (product_with c i.lower) (product_with c i.upper) ≡ Some (c *ℚ v)) c zero_ℚ
    (λ below. ap (product_with c) (low below))
    (λ same. ap Some (ring_ℚ 2 (λ c v. ⊝ v ⊙ c ≗ 𝟘 ⟹ 𝟘 ≐ c ⊗ v) tt c v same))
    (λ above. ap (product_with c) (high above))
