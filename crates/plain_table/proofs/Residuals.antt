-- What the structurals leave of the right sides.
use Rattle.std.proofs.Common.{◌≡◌, ℕ, zero, suc, ◌+◌, ◌<◌, List, ◌++◌, map, Bool, true, false, cond, is_some, Option, Some, None, refl, sym, ◌∙◌, ap}
use Rattle.std.specs.List.{list_all, range_with_len}
use Rattle.lp_model.specs.declared.Kind.TheVariants as kind
use Rattle.lp_model.specs.declared.Place.{Place}
use Rattle.lp_model.specs.declared.Side.TheVariants as side
use Rattle.lp_model.specs.declared.Phase.TheVariants.{One}
use Rattle.rational.specs.Rational.{ℚ, neg_ℚ, ◌*ℚ◌}
use Rattle.rational.specs.Sparse.{entry_at}
use Rattle.rational.specs.Sum.{at}
use Rattle.rational.specs.Width.{fits_width}
use Rattle.rational.specs.Worked.{Worked, bind, done, less, placed, settle}
use Rattle.rational.proofs.RationalRing.{ring_ℚ}
use Rattle.rational.proofs.Ring.{◌≐◌, ◌⊗◌, ⊝◌, 𝟙}
use Rattle.rational.proofs.Settling.{settle-bind, settle-done}
use Rattle.lp_run.specs.Instance.{Instance, bounds, coefficient, kind_bounds, passed_side, residual, sign_past, start_value, structural, structural_count}
use Rattle.lp_run.specs.Listing.{AllFit, Listed, first_unfit, place, start_entry, start_sums, taken}
use Rattle.lp_run.proofs.FirstUnfit.{fit-append, unfit-append, unfit-placed}
use Rattle.lp_run.proofs.Start.{kind_of_structural}
use Rattle.plain_table.specs.Inner.Costs.{factors_from, priced}
use Rattle.plain_table.specs.Inner.Starts.{residual_work}
use Rattle.plain_table.proofs.Pricing.{priced_answer}

pub structural_bounds : (inst : Instance) (j : ℕ) → j < structural_count inst → bounds inst One j ≡ (structural inst j).bounds
structural_bounds inst j b = ap (kind_bounds inst One) (kind_of_structural inst j b)

-- what the work comes to is the residual
pub residual_answer : (inst : Instance) (i : ℕ) → (residual_work inst i).answer ≡ residual inst i
residual_answer inst i = priced_answer (λ j. entry_at (structural inst j).entries i) (λ j. start_value (structural inst j).bounds) (structural_count inst) (at inst.right i)

-- ── where the start sums fit ──

module _ (w : ℕ) where
  none_not_some : (p : Place) (o : Option Place) → o ≡ Some p → o ≡ None → ⊥
  none_not_some p o e n = cc

  -- the first part of what fits fits
  pub fit_left : (xs ys : List Listed) → AllFit w (xs ++ ys) → AllFit w xs
  fit_left xs ys fits = by_first (first_unfit w xs) refl
    where
      by_first : (o : Option Place) → first_unfit w xs ≡ o → first_unfit w xs ≡ None
      by_first None e = e
      by_first (Some p) e = absurd (none_not_some p (first_unfit w (xs ++ ys)) (unfit-append w xs ys p e) fits)

  -- a calculation whose values fit settles
  pub fits_settle : {A : Type 0} (here : Place) (c : Worked A) → AllFit w (placed here c) → settle w c ≡ Some c.answer
  unfolding settle
  fits_settle here c fits = by_test (list_all (fits_width w) c.values) refl
    where
      by_test : (t : Bool) → list_all (fits_width w) c.values ≡ t → cond (list_all (fits_width w) c.values) (Some c.answer) None ≡ Some c.answer
      by_test true e = ap (λ t. cond t (Some c.answer) None) e
      by_test false e = absurd (none_not_some here (first_unfit w (placed here c)) (unfit-placed w here c (ap (λ t. cond t (Some c.answer) None) e)) fits)

  taken_settles : (here : ℕ → Place) (f g : ℕ → ℚ) (a n : ℕ) (r : ℚ) → AllFit w (taken r (map (λ j. (here j, (f j, g j))) (range_with_len a n)))
      → settle w (priced r (factors_from f g a n)) ≡ Some (priced r (factors_from f g a n)).answer
  unfolding bind done
  taken_settles here f g a zero r fits = settle-done w r
  taken_settles here f g a (suc n) r fits =
      let first = fit_left (placed (here a) (less r (f a) (g a))) (taken (less r (f a) (g a)).answer (map (λ j. (here j, (f j, g j))) (range_with_len (a + 1) n))) fits in
      settle-bind w (less r (f a) (g a)) (λ left. priced left (factors_from f g (a + 1) n)) (less r (f a) (g a)).answer (fits_settle (here a) (less r (f a) (g a)) first)
      ∙ taken_settles here f g (a + 1) n (less r (f a) (g a)).answer
      (sym (fit-append w (placed (here a) (less r (f a) (g a))) (taken (less r (f a) (g a)).answer (map (λ j. (here j, (f j, g j))) (range_with_len (a + 1) n))) first) ∙ fits)

  -- where the start sums of a row fit, its residual is worked
  pub residual_settles : (inst : Instance) (i : ℕ) → AllFit w (start_sums inst i) → settle w (residual_work inst i) ≡ Some (residual inst i)
  residual_settles inst i fits =
      taken_settles (λ j. place 0 kind.Start (Some i) (Some j)) (λ j. entry_at (structural inst j).entries i) (λ j. start_value (structural inst j).bounds) 0 (structural_count inst) (at inst.right i)
      (fit_left _ _ (fit_left _ _ fits))
      ∙ ap Some (residual_answer inst i)

-- ── the entries at the start ──

module _ (inst : Instance) (p j : ℕ) where
  pub start_lower : passed_side inst p ≡ Some side.Lower → neg_ℚ (coefficient inst p j) ≡ start_entry inst p j
  start_lower e =
      ring_ℚ 1 (λ a. ⊝ a ≐ ⊝ 𝟙 ⊗ a) tt (coefficient inst p j)
      ∙ sym (ap (λ o. cond (is_some o) (sign_past o *ℚ coefficient inst p j) (coefficient inst p j)) e)

  pub start_upper : passed_side inst p ≡ Some side.Upper → coefficient inst p j ≡ start_entry inst p j
  start_upper e =
      ring_ℚ 1 (λ a. a ≐ 𝟙 ⊗ a) tt (coefficient inst p j)
      ∙ sym (ap (λ o. cond (is_some o) (sign_past o *ℚ coefficient inst p j) (coefficient inst p j)) e)
