-- The limits of a step as they are worked.
use Rattle.std.proofs.Common.{◌≡◌, ◌≢◌, ℕ, Option, Some, None, Result, Bool, true, false, List, refl, sym, ◌∙◌, ap, ap₂, subst, arith}
use Rattle.std.proofs.lemmas.Int.{ints}
use Rattle.std.specs.Cmp.{tied_itself}
use Rattle.std.specs.declared.cmp.Ordering.TheVariants.{Equal}
use Rattle.lp_model.specs.declared.Side.{Side}
use Rattle.lp_model.specs.Deck.{Interval}
use Rattle.rational.specs.Rational.{ℚ, zero_ℚ, ◌-ℚ◌, ◌*ℚ◌, ◌/ℚ◌, neg_ℚ, abs_ℚ, cmp_ℚ}
use Rattle.rational.specs.Width.{FitsWidth}
use Rattle.rational.specs.Worked.{bind, done, settle, work}
use Rattle.rational.proofs.OrderLaws.{abs_ℚ-above, abs_ℚ-below, cmp_ℚ_total, by_cmp}
use Rattle.rational.proofs.Linear.{linear, ◌≐◌, ◌⟹◌}
use Rattle.rational.proofs.RationalRing.{ring_ℚ}
use Rattle.rational.proofs.Ring.{◌≐◌, ⊝◌, ◌⊗◌, 𝟘, 𝟙}
use Rattle.rational.proofs.Settling.{settle-bind, settle-bind_none, settle-done, settle-work, settle-work_none}
use Rattle.rational.specs.Sum.{at}
use Rattle.exact_frac.specs.declared.unfit.Unfit.{Unfit}
use Rattle.exact_frac.specs.Settles.{Settles}
use Rattle.lp_run.specs.Instance.{Instance, bounds}
use Rattle.lp_run.specs.State.{State, basic}
use Rattle.bland_ratio.specs.Leave.{direction_where}
use Rattle.bland_ratio.specs.declared.limits.Limit.{Limit as Found}
use Rattle.bland_ratio.specs.Inner.Limits.{distance, end_ahead, limit_by, limit_work, own_by, own_work}

-- ── rates and sizes ──

pub rate_down : (down : Bool) (a : ℚ) → down ≡ true → a ≡ neg_ℚ (direction_where down) *ℚ a
rate_down down a e = ring_ℚ 1 (λ a. a ≐ (⊝ (⊝ 𝟙)) ⊗ a) tt a ∙ ap (λ b. neg_ℚ (direction_where b) *ℚ a) (sym e)

pub rate_up : (down : Bool) (a : ℚ) → down ≡ false → neg_ℚ a ≡ neg_ℚ (direction_where down) *ℚ a
rate_up down a e = ring_ℚ 1 (λ a. ⊝ a ≐ (⊝ 𝟙) ⊗ a) tt a ∙ ap (λ b. neg_ℚ (direction_where b) *ℚ a) (sym e)

pub size_apart : (a : ℚ) → a ≢ zero_ℚ → abs_ℚ a ≢ zero_ℚ
size_apart a other none =
    by_cmp (λ o. ⊥) a zero_ℚ
    (λ below. other (linear 2 (λ a s. s ≐ ⊝ a ⟹ s ≐ 𝟘 ⟹ a ≐ 𝟘) (omega (arith, ints)) a (abs_ℚ a) (abs_ℚ-below a below) none))
    other
    (λ above. other (sym (abs_ℚ-above a above) ∙ none))

-- a value whose element is 0 stands still
pub stands_still : (t a : ℚ) → a ≡ zero_ℚ → cmp_ℚ (neg_ℚ t *ℚ a) zero_ℚ ≡ Equal
stands_still t a none =
    ap (λ x. cmp_ℚ x zero_ℚ) (ap (λ a. neg_ℚ t *ℚ a) none ∙ ring_ℚ 1 (λ t. (⊝ t) ⊗ 𝟘 ≐ 𝟘) tt t) ∙ tied_itself cmp_ℚ_total zero_ℚ

-- ── the limit of a position ──

module _ (w : ℕ) (o : Option (ℚ × Side)) (v a : ℚ) (c p : ℕ) where
  pub no_end : o ≡ None → settle w (limit_by o v a c p) ≡ Some None
  no_end none = ap (λ o. settle w (limit_by o v a c p)) none ∙ settle-done w None

  module _ (ahead : ℚ × Side) (is : o ≡ Some ahead) where
    pub unfit_distance : ¬ FitsWidth w (distance v ahead.0 ahead.1) → settle w (limit_by o v a c p) ≡ None
    unfit_distance unfit = ap (λ o. settle w (limit_by o v a c p)) is ∙ settle-bind_none w (work (distance v ahead.0 ahead.1)) _ (settle-work_none w _ unfit)

    module _ (u : ℕ) (same : u ≡ w) (d size : ℚ) (worked : (d ≡ distance v ahead.0 ahead.1) × FitsWidth w (distance v ahead.0 ahead.1)) (sized : size ≡ abs_ℚ a) where
      after_distance : settle w (limit_by o v a c p) ≡ settle w (bind (work (d /ℚ size)) (λ r. done (Some (record { ratio = r; column = c; out = Some (p, ahead.1) }))))
      after_distance =
          ap (λ o. settle w (limit_by o v a c p)) is
          ∙ settle-bind w (work (distance v ahead.0 ahead.1)) _ (distance v ahead.0 ahead.1) (settle-work w _ worked.1)
          ∙ ap₂ (λ d size. settle w (bind (work (d /ℚ size)) (λ r. done (Some (record { ratio = r; column = c; out = Some (p, ahead.1) }))))) (sym worked.0) (sym sized)

      pub unfit_quotient : ¬ FitsWidth u (d /ℚ size) → settle w (limit_by o v a c p) ≡ None
      unfit_quotient unfit = after_distance ∙ settle-bind_none w (work (d /ℚ size)) _ (settle-work_none w _ (subst (λ u. ¬ FitsWidth u (d /ℚ size)) same unfit))

      pub found_limit : (r : ℚ) → (r ≡ d /ℚ size) × FitsWidth u (d /ℚ size) → settle w (limit_by o v a c p) ≡ Some (Some (record { ratio = r; column = c; out = Some (p, ahead.1) }))
      found_limit r (e, fits) =
          after_distance ∙ settle-bind w (work (d /ℚ size)) _ (d /ℚ size) (settle-work w _ (subst (λ u. FitsWidth u (d /ℚ size)) same fits))
          ∙ settle-done w _ ∙ ap (λ r. Some (Some (record { ratio = r; column = c; out = Some (p, ahead.1) }))) (sym e)

-- the calculation of a position, by its parts
module _ (inst : Instance) (s : State) (t : ℚ) (β α : List ℚ) (p : ℕ) where
  pub idle_position : (w : ℕ) → at α p ≡ zero_ℚ → settle w (limit_work inst s t β α p) ≡ Some None
  idle_position w none = no_end w (end_ahead (cmp_ℚ (neg_ℚ t *ℚ at α p) zero_ℚ) (bounds inst s.phase (basic s p))) (at β p) (at α p) (basic s p) p
      (ap (λ o. end_ahead o (bounds inst s.phase (basic s p))) (stands_still t (at α p) none))

  pub position_settles : (w : ℕ) (o : Option (ℚ × Side)) (rate v a : ℚ) (i : Interval) (r : Result (Option Found) Unfit)
      → o ≡ end_ahead (cmp_ℚ rate zero_ℚ) i → rate ≡ neg_ℚ t *ℚ a → i ≡ bounds inst s.phase (basic s p) → v ≡ at β p → a ≡ at α p
      → Settles w (limit_by o v a (basic s p) p) r → Settles w (limit_work inst s t β α p) r
  position_settles w o rate v a i r ahead moves ends value element h = subst (λ c. Settles w c r) same h
    where
      same : limit_by o v a (basic s p) p ≡ limit_work inst s t β α p
      same =
          ap (λ o. limit_by o v a (basic s p) p) (ahead ∙ ap₂ (λ r i. end_ahead (cmp_ℚ r zero_ℚ) i) (moves ∙ ap (λ a. neg_ℚ t *ℚ a) element) ends)
          ∙ ap₂ (λ v a. limit_by (end_ahead (cmp_ℚ (neg_ℚ t *ℚ at α p) zero_ℚ) (bounds inst s.phase (basic s p))) v a (basic s p) p) value element

-- ── the limit of the entering column ──

module _ (w : ℕ) (ends : Interval) (q : ℕ) where
  own_at : (lower upper : Option ℚ) → lower ≡ ends.lower → upper ≡ ends.upper → own_work ends q ≡ own_by lower upper q
  own_at lower upper e f = ap₂ (λ lower upper. own_by lower upper q) (sym e) (sym f)

  pub no_lower : None ≡ ends.lower → settle w (own_work ends q) ≡ Some None
  no_lower e = ap (settle w) (own_at None ends.upper e refl) ∙ settle-done w None

  module _ (l : ℚ) (lower : Some l ≡ ends.lower) where
    pub no_upper : None ≡ ends.upper → settle w (own_work ends q) ≡ Some None
    no_upper e = ap (settle w) (own_at (Some l) None lower e) ∙ settle-done w None

    module _ (u : ℚ) (upper : Some u ≡ ends.upper) where
      pub unfit_range : ¬ FitsWidth w (u -ℚ l) → settle w (own_work ends q) ≡ None
      unfit_range unfit = ap (settle w) (own_at (Some l) (Some u) lower upper) ∙ settle-bind_none w (work (u -ℚ l)) _ (settle-work_none w _ unfit)

      pub found_range : (r : ℚ) → (r ≡ u -ℚ l) × FitsWidth w (u -ℚ l) → settle w (own_work ends q) ≡ Some (Some (record { ratio = r; column = q; out = None }))
      found_range r (e, fits) =
          ap (settle w) (own_at (Some l) (Some u) lower upper) ∙ settle-bind w (work (u -ℚ l)) _ (u -ℚ l) (settle-work w _ fits)
          ∙ settle-done w _ ∙ ap (λ r. Some (Some (record { ratio = r; column = q; out = None }))) (sym e)
