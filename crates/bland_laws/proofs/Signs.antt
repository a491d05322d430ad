-- The signs of a reduced cost and of a rate, where a column does not move though a step passes over it.
use Rattle.std.proofs.Common.{◌≡◌, ◌≢◌, Option, Some, None, IsFalse, refl, sym, ◌∙◌, ap, subst, arith}
use Rattle.std.proofs.lemmas.Int.{ints}
use Rattle.lp_model.specs.declared.Side.{Side}
use Rattle.lp_model.specs.declared.Side.TheVariants as side
use Rattle.lp_model.specs.declared.Status.{Status}
use Rattle.lp_model.specs.declared.Status.TheVariants as status
use Rattle.rational.specs.Rational.{ℚ, zero_ℚ, one_ℚ, ◌*ℚ◌, neg_ℚ, ◌≤ℚ◌, ◌<ℚ◌}
use Rattle.rational.proofs.RationalRing.{ring_ℚ}
use Rattle.rational.proofs.Ring.{◌≐◌, ◌⊗◌, ⊝◌, 𝟘, 𝟙}
use Rattle.rational.proofs.Linear.{linear, ◌≼◌, ◌≺◌, ◌≐◌, ◌⟹◌, never}
use Rattle.rational.proofs.ProductOrder.{*ℚ_nonnegative}
use Rattle.rational.proofs.OrderLaws.{by_lt_ℚ}
use Rattle.lp_model.specs.Deck.{Interval}
use Rattle.lp_run.specs.State.{resting_value}
use Rattle.lp_run.specs.Step.{Improves, direction, is_fixed}
use Rattle.lp_run.specs.State.{NamesEnd}
use Rattle.bland_laws.proofs.Limits.{Toward, by_sign, direction_down, direction_up, end_at, product_of_falls}
use Rattle.bland_laws.proofs.Resting.{ends_apart}
use Rattle.bland_laws.proofs.Standing.{some_end, weak}

weak_below : (a : ℚ) → a <ℚ zero_ℚ → a ≤ℚ zero_ℚ
weak_below a h = linear 1 (λ x. x ≺ 𝟘 ⟹ x ≼ 𝟘) (omega (arith, ints)) a h

not_below : (d : ℚ) → (d <ℚ zero_ℚ → ⊥) → zero_ℚ ≤ℚ d
not_below d h = by_lt_ℚ d zero_ℚ (λ less. absurd (h less)) (λ more. more)

not_above : (d : ℚ) → (zero_ℚ <ℚ d → ⊥) → d ≤ℚ zero_ℚ
not_above d h = by_lt_ℚ zero_ℚ d (λ more. absurd (h more)) (λ less. less)

not_apart : (d : ℚ) → ((d ≢ zero_ℚ) → ⊥) → d ≡ zero_ℚ
not_apart d h =
    by_sign d
    (λ below. absurd (h (λ e. linear 1 (λ d. d ≺ 𝟘 ⟹ d ≐ 𝟘 ⟹ never) (omega (arith, ints)) d below e)))
    (λ same. same)
    (λ above. absurd (h (λ e. linear 1 (λ d. 𝟘 ≺ d ⟹ d ≐ 𝟘 ⟹ never) (omega (arith, ints)) d above e)))

pub zero_times : (d r : ℚ) → d ≡ zero_ℚ → zero_ℚ ≤ℚ d *ℚ r
zero_times d r e = linear 1 (λ v. v ≐ 𝟘 ⟹ 𝟘 ≼ v) (omega (arith, ints)) (d *ℚ r) (ap (λ d. d *ℚ r) e ∙ ring_ℚ 1 (λ r. 𝟘 ⊗ r ≐ 𝟘) tt r)

no_end : (o : Option ℚ) (end : ℚ) → o ≡ None → o ≡ Some end → ⊥
no_end o end e f = cc

module _ (i : Interval) (loose : IsFalse (is_fixed i)) where
  -- the two ends are not one number
  apart : (v : ℚ) → i.lower ≡ Some v → i.upper ≡ Some v → ⊥
  apart v = ends_apart i v loose

  -- a column that may move from its end, and leaves to the end at which it is, leaves to that end
  pub returning : (st : Status) (d v rate end : ℚ) (r : Side) → Improves st d → NamesEnd st i → v ≡ resting_value st i → Toward r rate → end_at r i ≡ Some end
      → v ≡ end → zero_ℚ ≤ℚ d *ℚ rate
  returning status.Basic d v rate end r moves stands at_v toward has same = absurd moves
  returning status.Lower d v rate end side.Lower moves stands at_v toward has same = product_of_falls d rate (weak_below d moves) (weak_below rate toward)
  returning status.Lower d v rate end side.Upper moves stands at_v toward has same =
      absurd (apart v (some_end i.lower stands ∙ ap Some (sym at_v)) (has ∙ ap Some (sym same)))
  returning status.Upper d v rate end side.Upper moves stands at_v toward has same = *ℚ_nonnegative d rate (weak d moves) (weak rate toward)
  returning status.Upper d v rate end side.Lower moves stands at_v toward has same =
      absurd (apart v (has ∙ ap Some (sym same)) (some_end i.upper stands ∙ ap Some (sym at_v)))
  returning status.Zero d v rate end side.Lower moves stands at_v toward has same = absurd (no_end i.lower end stands.0 has)
  returning status.Zero d v rate end side.Upper moves stands at_v toward has same = absurd (no_end i.upper end stands.1 has)

  -- a column that may not move from its end, and whose value no step takes beyond it
  pub passed_over : (st : Status) (d v rate : ℚ) → (Improves st d → ⊥) → st ≢ status.Basic → NamesEnd st i → v ≡ resting_value st i
      → ((r : Side) (end : ℚ) → Toward r rate → end_at r i ≡ Some end → v ≡ end → ⊥) → zero_ℚ ≤ℚ d *ℚ rate
  passed_over status.Basic d v rate still other stands at_v blocked = absurd (other refl)
  passed_over status.Lower d v rate still other stands at_v blocked =
      *ℚ_nonnegative d rate (not_below d still) (not_below rate (λ toward. blocked side.Lower v toward (some_end i.lower stands ∙ ap Some (sym at_v)) refl))
  passed_over status.Upper d v rate still other stands at_v blocked =
      product_of_falls d rate (not_above d still) (not_above rate (λ toward. blocked side.Upper v toward (some_end i.upper stands ∙ ap Some (sym at_v)) refl))
  passed_over status.Zero d v rate still other stands at_v blocked = zero_times d rate (not_apart d still)

  up_times : (t d : ℚ) → t ≡ one_ℚ → zero_ℚ ≤ℚ d → zero_ℚ ≤ℚ t *ℚ d
  up_times t d e h = linear 2 (λ x d. x ≐ d ⟹ 𝟘 ≼ d ⟹ 𝟘 ≼ x) (omega (arith, ints)) (t *ℚ d) d (ap (λ t. t *ℚ d) e ∙ ring_ℚ 1 (λ d. 𝟙 ⊗ d ≐ d) tt d) h

  down_times : (t d : ℚ) → t ≡ neg_ℚ one_ℚ → d ≤ℚ zero_ℚ → zero_ℚ ≤ℚ t *ℚ d
  down_times t d e h = linear 2 (λ x d. x ≐ ⊝ d ⟹ d ≼ 𝟘 ⟹ 𝟘 ≼ x) (omega (arith, ints)) (t *ℚ d) d (ap (λ t. t *ℚ d) e ∙ ring_ℚ 1 (λ d. (⊝ 𝟙) ⊗ d ≐ ⊝ d) tt d) h

  -- a column that may not move at one state, and enters from the same value at another
  pub entering_later : (st st' : Status) (d d' v : ℚ) → (Improves st d → ⊥) → st ≢ status.Basic → Improves st' d' → NamesEnd st i → NamesEnd st' i
      → v ≡ resting_value st i
      → v ≡ resting_value st' i → zero_ℚ ≤ℚ direction d' *ℚ d
  entering_later status.Basic st' d d' v still other moves stands stands' at_v at_v' = absurd (other refl)
  entering_later status.Lower status.Basic d d' v still other moves stands stands' at_v at_v' = absurd moves
  entering_later status.Lower status.Lower d d' v still other moves stands stands' at_v at_v' =
      up_times (direction d') d (direction_up d' moves) (not_below d still)
  entering_later status.Lower status.Upper d d' v still other moves stands stands' at_v at_v' =
      absurd (apart v (some_end i.lower stands ∙ ap Some (sym at_v)) (some_end i.upper stands' ∙ ap Some (sym at_v')))
  entering_later status.Lower status.Zero d d' v still other moves stands stands' at_v at_v' = absurd (no_end i.lower _ stands'.0 (some_end i.lower stands))
  entering_later status.Upper status.Basic d d' v still other moves stands stands' at_v at_v' = absurd moves
  entering_later status.Upper status.Upper d d' v still other moves stands stands' at_v at_v' =
      down_times (direction d') d (direction_down d' (weak d' moves)) (not_above d still)
  entering_later status.Upper status.Lower d d' v still other moves stands stands' at_v at_v' =
      absurd (apart v (some_end i.lower stands' ∙ ap Some (sym at_v')) (some_end i.upper stands ∙ ap Some (sym at_v)))
  entering_later status.Upper status.Zero d d' v still other moves stands stands' at_v at_v' = absurd (no_end i.upper _ stands'.1 (some_end i.upper stands))
  entering_later status.Zero st' d d' v still other moves stands stands' at_v at_v' =
      subst (λ z. zero_ℚ ≤ℚ direction d' *ℚ z) (sym (not_apart d still)) (linear 1 (λ v. v ≐ 𝟘 ⟹ 𝟘 ≼ v) (omega (arith, ints)) (direction d' *ℚ zero_ℚ)
      (ring_ℚ 1 (λ t. t ⊗ 𝟘 ≐ 𝟘) tt (direction d')))
