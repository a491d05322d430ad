-- What is worked at an end, and what a refusal says that is handed on.
use Rattle.std.proofs.Common.{◌≡◌, ◌≢◌, ◌↔◌, ℕ, [], ◌∷◌, ◌++◌, Option, Some, Bool, true, false, not, ◌&&◌, cond, refl, sym, ◌∙◌, ap, ap₂, subst, arith}
use Rattle.std.proofs.lemmas.Int.{ints}
use Rattle.std.specs.Prelude.{Result, MatchResult, IsErrAnd, IsTrue}
use Rattle.std.specs.List.{list_all}
use Rattle.std.proofs.lemmas.Result.{err_from_is_err_and}
use Rattle.std.specs.declared.cmp.Ordering.{Ordering}
use Rattle.std.specs.declared.cmp.Ordering.TheVariants.{Less, Equal, Greater}
use Rattle.lp_model.specs.declared.Status.{Status}
use Rattle.lp_model.specs.declared.Status.TheVariants as status
use Rattle.lp_model.specs.Deck.{Interval, Within}
use Rattle.rational.specs.Rational.{ℚ, zero_ℚ, one_ℚ, ◌-ℚ◌, ◌/ℚ◌, neg_ℚ, eq_ℚ, cmp_ℚ, lt_ℚ, ◌<ℚ◌}
use Rattle.rational.specs.Width.{FitsWidth, fits_width}
use Rattle.rational.proofs.FieldLaws.{/ℚ-*ℚ}
use Rattle.rational.proofs.RationalRing.{ring_ℚ}
use Rattle.rational.proofs.Ring.{◌≐◌, ◌⊙◌≗◌⟹◌, ◌⊗◌, ⊝◌, 𝟘, 𝟙}
use Rattle.rational.proofs.Linear.{linear, ◌≼◌, ◌≺◌, ◌≐◌, ◌⟹◌, never}
use Rattle.rational.proofs.OrderLaws.{by_cmp, eq_ℚ-decides, eq_ℚ-other, lt_ℚ-above, lt_ℚ-below, <ℚ_irrefl}
use Rattle.rational.proofs.WidthLaws.{fits_width-decides, unfit_tested}
use Rattle.lp_run.specs.Instance.{Instance}
use Rattle.lp_run.specs.State.{State, status_of}
use Rattle.ranging.specs.Inner.Found.{FitAll, IsWide}
use Rattle.ranging.specs.Inner.Limits.{cost_limit, end_over, ends_over, greater_end, lesser_end, limit_by, turned, value_limit}
use Rattle.ranging.specs.Listing.{cost_quotient, end_values, is_looked_at, move_values}
use Rattle.ranging.specs.Ranges.{everything}
use Rattle.ranging.proofs.FirstWide.{all-append}

-- a refusal that is handed on, whatever an answer would say
pub refused : {A E : Type 0} {e : E} (r : Result A E) (P : A → Type 0) (Q : E → Type 0) → IsErrAnd r (λ f. f ≡ e) → Q e → MatchResult r P Q
refused r P Q is h = let found = err_from_is_err_and r is in subst (λ r. MatchResult r P Q) (sym found.1) (subst Q (sym found.2) h)

-- a test that fails shows that what it asks does not hold
pub fails : {P : Type 0} (b : Bool) → IsTrue b ↔ P → b ≡ false → ¬ P
fails b tested none holds = apart (sym (tested.1 holds) ∙ none)
  where
    apart : true ≡ false → ⊥
    apart e = cc e

pub greater_is : (a b : Option ℚ) (x y : ℚ) (t : Bool) → a ≡ Some x → b ≡ Some y → lt_ℚ x y ≡ t → cond t b a ≡ greater_end a b
greater_is a b x y t at_a at_b is = ap₂ (λ b a. cond t b a) at_b at_a ∙ ap (λ t. cond t (Some y) (Some x)) (sym is) ∙ sym (ap₂ greater_end at_a at_b)

pub lesser_is : (a b : Option ℚ) (x y : ℚ) (t : Bool) → a ≡ Some x → b ≡ Some y → lt_ℚ y x ≡ t → cond t b a ≡ lesser_end a b
lesser_is a b x y t at_a at_b is = ap₂ (λ b a. cond t b a) at_b at_a ∙ ap (λ t. cond t (Some y) (Some x)) (sym is) ∙ sym (ap₂ lesser_end at_a at_b)

fit_one : (w : ℕ) (v : ℚ) → FitsWidth w v → FitAll w (v ∷ [])
fit_one w v fits = ap (λ t. t && true) ((fits_width-decides w v).1 fits)

-- ── an end ──

module _ (w : ℕ) (o : Option ℚ) (end b g : ℚ) (is : o ≡ Some end) where
  pub end_fits : (distance change : ℚ) → distance ≡ end -ℚ b → FitsWidth w (end -ℚ b) → change ≡ distance /ℚ g → FitsWidth w (distance /ℚ g)
      → FitAll w (end_values o b g) × (Some change ≡ end_over o b g)
  end_fits distance change at_distance fits at_change also = (
    subst (λ o. FitAll w (end_values o b g)) (sym is)
        (ap₂ (λ s t. s && (t && true)) ((fits_width-decides w (end -ℚ b)).1 fits) ((fits_width-decides w ((end -ℚ b) /ℚ g)).1 (subst (λ d. FitsWidth w (d /ℚ g)) at_distance also))),
    ap Some (at_change ∙ ap (λ d. d /ℚ g) at_distance) ∙ ap (λ o. end_over o b g) (sym is),
  )

  pub distance_wide : ¬ FitsWidth w (end -ℚ b) → IsWide w (end_values o b g)
  distance_wide wide = subst (λ o. IsWide w (end_values o b g)) (sym is) (ap (λ s. s && (fits_width w ((end -ℚ b) /ℚ g) && true)) (unfit_tested w (end -ℚ b) wide))

  pub change_wide : (distance : ℚ) → distance ≡ end -ℚ b → FitsWidth w (end -ℚ b) → ¬ FitsWidth w (distance /ℚ g) → IsWide w (end_values o b g)
  change_wide distance at_distance fits wide =
      subst (λ o. IsWide w (end_values o b g)) (sym is)
      (ap₂ (λ s t. s && (t && true)) ((fits_width-decides w (end -ℚ b)).1 fits) (unfit_tested w ((end -ℚ b) /ℚ g) (λ f. wide (subst (λ d. FitsWidth w (d /ℚ g)) (sym at_distance) f))))

-- ── a value between two ends ──

zero_tested : (g : ℚ) → g ≡ zero_ℚ → eq_ℚ g zero_ℚ ≡ true
zero_tested g none = (eq_ℚ-decides g zero_ℚ).1 none

compared_zero : (g : ℚ) → g ≡ zero_ℚ → cmp_ℚ g zero_ℚ ≡ Equal
compared_zero g none =
    by_cmp (λ o. o ≡ Equal) g zero_ℚ (λ h. absurd (<ℚ_irrefl zero_ℚ (subst (λ z. z <ℚ zero_ℚ) none h))) (λ _. refl) (λ h. absurd (<ℚ_irrefl zero_ℚ (subst (λ z. zero_ℚ <ℚ z) none h)))

module _ (w : ℕ) (ends : Interval) (b g : ℚ) where
  abbrev limit_in : Ordering → Interval
  limit_in o = elim o [ Less ↦ turned (ends_over ends b g) | Equal ↦ everything | Greater ↦ ends_over ends b g ]

  pub still_limit : g ≡ zero_ℚ → FitAll w (move_values ends b g) × (everything ≡ value_limit ends b g)
  still_limit none = (
    ap (λ t. list_all (fits_width w) (cond t [] (end_values ends.lower b g ++ end_values ends.upper b g))) (zero_tested g none),
    ap limit_in (sym (compared_zero g none)),
  )

  moves : g ≢ zero_ℚ → (t : Bool) → list_all (fits_width w) (end_values ends.lower b g ++ end_values ends.upper b g) ≡ t → list_all (fits_width w) (move_values ends b g) ≡ t
  moves other t is = ap (λ t. list_all (fits_width w) (cond t [] (end_values ends.lower b g ++ end_values ends.upper b g))) (eq_ℚ-other g other) ∙ is

  pub lower_wide : g ≢ zero_ℚ → IsWide w (end_values ends.lower b g) → IsWide w (move_values ends b g)
  lower_wide other wide =
      moves other false (all-append w (end_values ends.lower b g) (end_values ends.upper b g) ∙ ap (λ t. t && list_all (fits_width w) (end_values ends.upper b g)) wide)

  pub upper_wide : g ≢ zero_ℚ → FitAll w (end_values ends.lower b g) → IsWide w (end_values ends.upper b g) → IsWide w (move_values ends b g)
  upper_wide other fits wide = moves other false (all-append w (end_values ends.lower b g) (end_values ends.upper b g) ∙ ap₂ ◌&&◌ fits wide)

  both_fit : g ≢ zero_ℚ → FitAll w (end_values ends.lower b g) → FitAll w (end_values ends.upper b g) → FitAll w (move_values ends b g)
  both_fit other low high = moves other true (all-append w (end_values ends.lower b g) (end_values ends.upper b g) ∙ ap₂ ◌&&◌ low high)

  module _ (other : g ≢ zero_ℚ) (lower upper : Option ℚ) (low : FitAll w (end_values ends.lower b g) × (lower ≡ end_over ends.lower b g))
      (high : FitAll w (end_values ends.upper b g) × (upper ≡ end_over ends.upper b g)) where
    pub falls_limit : lt_ℚ g zero_ℚ ≡ true → FitAll w (move_values ends b g) × (record { lower = upper; upper = lower } ≡ value_limit ends b g)
    falls_limit is = (
      both_fit other low.0 high.0,
      ap₂ (λ l u. record { lower = l; upper = u }) high.1 low.1
          ∙ by_cmp (λ o. turned (ends_over ends b g) ≡ limit_in o) g zero_ℚ (λ _. refl) (λ none. absurd (other none))
          (λ up. absurd (apart (sym is ∙ lt_ℚ-above g zero_ℚ (linear 1 (λ g. 𝟘 ≺ g ⟹ 𝟘 ≼ g) (omega (arith, ints)) g up)))),
    )
      where
        apart : true ≡ false → ⊥
        apart e = cc e

    pub rises_limit : lt_ℚ g zero_ℚ ≡ false → FitAll w (move_values ends b g) × (record { lower = lower; upper = upper } ≡ value_limit ends b g)
    rises_limit is = (
      both_fit other low.0 high.0,
      ap₂ (λ l u. record { lower = l; upper = u }) low.1 high.1
          ∙ by_cmp (λ o. ends_over ends b g ≡ limit_in o) g zero_ℚ (λ down. absurd (apart (sym (lt_ℚ-below g zero_ℚ down) ∙ is))) (λ none. absurd (other none)) (λ _. refl),
    )
      where
        apart : true ≡ false → ⊥
        apart e = cc e

-- ── one column ──

module _ (w : ℕ) (inst : Instance) (s : State) (d r : ℚ) (k : ℕ) where
  abbrev pub Known : Interval → Type 0
  Known i = FitAll w (cost_quotient inst s d r k) × ((u : ℚ) → Within i u ↔ (is_looked_at inst s k ≡ true → Within (cost_limit (status_of s k) d r) u))

  unlimited : (st : Status) → r ≡ zero_ℚ → cost_limit st d r ≡ everything
  unlimited status.Basic none = refl
  unlimited status.Lower none = ap (λ o. limit_by status.Lower o (d /ℚ r)) (compared_zero r none)
  unlimited status.Upper none = ap (λ o. limit_by status.Upper o (d /ℚ r)) (compared_zero r none)
  unlimited status.Zero none = ap (λ o. limit_by status.Zero o (d /ℚ r)) (compared_zero r none)

  and_not : (l : Bool) → (l && false) ≡ false
  and_not true = refl
  and_not false = refl

  pub no_entry : r ≡ zero_ℚ → Known everything
  no_entry none = (
    ap (λ t. list_all (fits_width w) (cond t ((d /ℚ r) ∷ []) [])) (ap (λ t. is_looked_at inst s k && not t) (zero_tested r none) ∙ and_not (is_looked_at inst s k)),
    λ u. ((λ _ _. subst (λ i. Within i u) (sym (unlimited (status_of s k) none)) (tt, tt)), λ _. (tt, tt)),
  )

  pub not_looked_at : is_looked_at inst s k ≡ false → Known everything
  not_looked_at is = (
    ap (λ l. list_all (fits_width w) (cond (l && not (eq_ℚ r zero_ℚ)) ((d /ℚ r) ∷ []) [])) is,
    λ u. ((λ _ l. absurd (apart (sym l ∙ is))), λ _. (tt, tt)),
  )
    where
      apart : true ≡ false → ⊥
      apart e = cc e

  module _ (looked : is_looked_at inst s k ≡ true) (other : r ≢ zero_ℚ) where
    one_value : (t : Bool) → fits_width w (d /ℚ r) ≡ t → list_all (fits_width w) (cost_quotient inst s d r k) ≡ t
    one_value t is =
        ap₂ (λ l z. list_all (fits_width w) (cond (l && not z) ((d /ℚ r) ∷ []) [])) looked (eq_ℚ-other r other) ∙ ap (λ t. t && true) is ∙ last t
      where
        last : (t : Bool) → (t && true) ≡ t
        last true = refl
        last false = refl

    pub quotient_wide : ¬ FitsWidth w (d /ℚ r) → IsWide w (cost_quotient inst s d r k)
    quotient_wide wide = one_value false (unfit_tested w (d /ℚ r) wide)

    pub quotient_limits : FitsWidth w (d /ℚ r) → (i : Interval) → i ≡ cost_limit (status_of s k) d r → Known i
    quotient_limits fits i is = (
      one_value true ((fits_width-decides w (d /ℚ r)).1 fits),
      λ u. ((λ h _. subst (λ i. Within i u) is h), λ h. subst (λ i. Within i u) (sym is) (h looked)),
    )

-- the limit of a column whose reduced cost alone moves
pub own_is : (st : Status) (d : ℚ) → limit_by st Less (neg_ℚ d) ≡ cost_limit st d (neg_ℚ one_ℚ)
own_is st d =
    ap₂ (limit_by st) (by_cmp (λ o. Less ≡ o) (neg_ℚ one_ℚ) zero_ℚ (λ _. refl) (λ e. absurd (linear 0 (⊝ 𝟙 ≐ 𝟘 ⟹ never) (omega (arith, ints)) e))
    (λ h. absurd (linear 0 (𝟘 ≺ ⊝ 𝟙 ⟹ never) (omega (arith, ints)) h)))
    (ring_ℚ 2 (λ d q. 𝟙 ⊙ q ⊗ ⊝ 𝟙 ≗ d ⟹ ⊝ d ≐ q) tt d (d /ℚ neg_ℚ one_ℚ) (/ℚ-*ℚ d (neg_ℚ one_ℚ) (λ e. linear 0 (⊝ 𝟙 ≐ 𝟘 ⟹ never) (omega (arith, ints)) e)))
