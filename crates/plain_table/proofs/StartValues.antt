-- The basic values at the start: where the start sums fit, what is worked for them fits.
use Rattle.std.proofs.Common.{◌≡◌, ℕ, zero, suc, ◌+◌, ◌<◌, ◌≤◌, List, [], ◌∷◌, ◌++◌, map, flat_map, get_or, Bool, true, false, cond, is_some, Option, Some, None, refl, sym, ◌∙◌, ap, ap₂, subst, arith}
use Rattle.std.specs.List.{range_with_len}
use Rattle.std.specs.Option.{option_map, unwrap_or}
use Rattle.lp_model.specs.declared.Kind.TheVariants as kind
use Rattle.lp_model.specs.declared.Phase.{Phase}
use Rattle.lp_model.specs.declared.Phase.TheVariants.{One, Two}
use Rattle.lp_model.specs.declared.Place.{Place}
use Rattle.lp_model.specs.declared.Side.{Side}
use Rattle.lp_model.specs.declared.Side.TheVariants as side
use Rattle.lp_model.specs.Deck.{Interval}
use Rattle.rational.specs.Rational.{ℚ, zero_ℚ, one_ℚ, neg_ℚ, ◌-ℚ◌, ◌*ℚ◌}
use Rattle.rational.specs.Sparse.{entry_at, upto}
use Rattle.rational.specs.Sum.{at}
use Rattle.rational.specs.Width.{FitsWidth, fits_width}
use Rattle.rational.proofs.SumLaws.{at_or_other}
use Rattle.rational.proofs.RationalRing.{ring_ℚ}
use Rattle.rational.proofs.Ring.{◌≐◌, ◌⊖◌, ◌⊗◌, ⊝◌, 𝟘, 𝟙}
use Rattle.rational.proofs.WidthLaws.{fits_width-decides}
use Rattle.lp_run.specs.Instance.{Instance, IsWellFormed, bounds, kind_bounds, logical, passed_by, passed_side, is_above, is_below}
use Rattle.lp_run.specs.Instance.{residual, row_count, row_passes, sign_past, start_value, structural, structural_count}
use Rattle.lp_run.specs.Listing.{AllFit, Listed, first_unfit, listed_at, place, start_sums, taken}
use Rattle.lp_run.specs.State.{logical_start, resting_value, standing_at, start_of}
use Rattle.lp_run.specs.declared.ColumnKind.TheVariants as column
use Rattle.lp_run.proofs.FirstUnfit.{fit-append, one-unfit}
use Rattle.lp_run.proofs.Start.{kind_of_logical}
use Rattle.lp_run.proofs.StartStatuses.{start_logical}
use Rattle.plain_table.specs.Inner.Starts.{basic_start, logical_rest}
use Rattle.plain_table.proofs.Residuals.{fit_left}

-- ── parts of what fits ──

module _ (w : ℕ) where
  pub fit_right : (xs ys : List Listed) → AllFit w (xs ++ ys) → AllFit w ys
  fit_right xs ys fits = sym (fit-append w xs ys (fit_left w xs ys fits)) ∙ fits

  part_from : (f : ℕ → List Listed) (a n k : ℕ) → a ≤ k → k < a + n → AllFit w (flat_map f (range_with_len a n)) → AllFit w (f k)
  part_from f a zero k from below fits = absurd (omega arith)
  part_from f a (suc n) k from below fits =
      at_or_other (λ a. a ≤ k → k < a + suc n → AllFit w (f a ++ flat_map f (range_with_len (a + 1) n)) → AllFit w (f k)) k a
      (λ from below fits. fit_left w (f k) (flat_map f (range_with_len (k + 1) n)) fits)
      (λ other from below fits. part_from f (a + 1) n k (omega arith) (omega arith) (fit_right (f a) (flat_map f (range_with_len (a + 1) n)) fits))
      from below fits

  pub part_fits : (f : ℕ → List Listed) (n k : ℕ) → k < n → AllFit w (flat_map f (upto n)) → AllFit w (f k)
  part_fits f n k b fits = part_from f 0 n k (omega arith) (omega arith) fits

  pub one_of : (here : Place) (v : ℚ) → AllFit w ((here, v) ∷ []) → FitsWidth w v
  one_of here v fits = by_test (fits_width w v) refl
    where
      apart : (o : Option Place) → o ≡ Some here → o ≡ None → ⊥
      apart o e n = cc

      by_test : (t : Bool) → fits_width w v ≡ t → FitsWidth w v
      by_test true e = (fits_width-decides w v).0 e
      by_test false e = absurd (apart (first_unfit w ((here, v) ∷ [])) (one-unfit w here v e) fits)

-- ── the end that a residual passes ──

-- what an end leaves of a number, where that side is passed
beside : (i : Interval) (x : ℚ) (r : Side) (below above : Bool) → option_map (λ passed. passed.0) (passed_by below above i) ≡ Some r
    → option_map (λ passed. x -ℚ passed.1) (passed_by below above i) ≡ Some (x -ℚ resting_value (standing_at r) i)
beside i x r true above e = ap (λ o. Some (x -ℚ resting_value (standing_at (unwrap_or o side.Lower)) i)) e
beside i x r false true e = ap (λ o. Some (x -ℚ resting_value (standing_at (unwrap_or o side.Upper)) i)) e
beside i x r false false e = absurd (cc e)

module _ (inst : Instance) (h : IsWellFormed inst) (i : ℕ) (b : i < row_count inst) where
  logical_bounds_are : (phase : Phase) → bounds inst phase (structural_count inst + i) ≡ logical inst i
  logical_bounds_are phase = ap (kind_bounds inst phase) (kind_of_logical inst i b) ∙ by_phase phase
    where
      by_phase : (phase : Phase) → kind_bounds inst phase (column.Logical i) ≡ logical inst i
      by_phase One = refl
      by_phase Two = refl

  rests_by : (o : Option Side) → passed_side inst i ≡ o → resting_value (logical_start o) (logical inst i) ≡ logical_rest inst i
  rests_by o e = sym (ap₂ resting_value (start_logical inst h.sides i b ∙ ap logical_start e) (logical_bounds_are (start_of inst).phase))

  -- the logical rests at the end that is passed
  pub rest_lower : (v : ℚ) → passed_side inst i ≡ Some side.Lower → v ≡ unwrap_or (bounds inst One (structural_count inst + i)).lower zero_ℚ → v ≡ logical_rest inst i
  rest_lower v e is = is ∙ ap (λ (ends : Interval). unwrap_or ends.lower zero_ℚ) (logical_bounds_are One) ∙ rests_by (Some side.Lower) e

  pub rest_upper : (v : ℚ) → passed_side inst i ≡ Some side.Upper → v ≡ unwrap_or (bounds inst One (structural_count inst + i)).upper zero_ℚ → v ≡ logical_rest inst i
  rest_upper v e is = is ∙ ap (λ (ends : Interval). unwrap_or ends.upper zero_ℚ) (logical_bounds_are One) ∙ rests_by (Some side.Upper) e

  sum_listed : (r : Side) → passed_side inst i ≡ Some r → option_map (λ passed. residual inst i -ℚ passed.1) (row_passes inst i) ≡ Some (residual inst i -ℚ logical_rest inst i)
  sum_listed r e =
      beside (logical inst i) (residual inst i) r (is_below (logical inst i).lower (residual inst i)) (is_above (logical inst i).upper (residual inst i)) (sym (h.passes i b) ∙ e)
      ∙ ap (λ v. Some (residual inst i -ℚ v)) (rests_by (Some r) e)

  -- the three parts of the row's start sums
  abbrev structurals_taken : List Listed
  structurals_taken =
      taken (at inst.right i)
      (map (λ j. (place 0 kind.Start (Some i) (Some j), (entry_at (structural inst j).entries i, start_value (structural inst j).bounds))) (upto (structural_count inst)))

  abbrev left_listed : List Listed
  left_listed = listed_at (place 0 kind.Start (Some i) None) (option_map (λ passed. residual inst i -ℚ passed.1) (row_passes inst i))

  abbrev range_listed : List Listed
  range_listed = listed_at (place 0 kind.Start (Some i) None) (get_or inst.range_sums i None)

  -- what the residual leaves beside it is a start sum, and fits where they do
  pub left_fits : (w : ℕ) (r : Side) → passed_side inst i ≡ Some r → AllFit w (start_sums inst i) → FitsWidth w (residual inst i -ℚ logical_rest inst i)
  left_fits w r e fits =
      one_of w (place 0 kind.Start (Some i) None) (residual inst i -ℚ logical_rest inst i)
      (subst (λ o. AllFit w (listed_at (place 0 kind.Start (Some i) None) o)) (sum_listed r e)
      (fit_right w structurals_taken left_listed (fit_left w (structurals_taken ++ left_listed) range_listed fits)))

  -- ── the basic value ──

  pub value_lower : (left v : ℚ) → passed_side inst i ≡ Some side.Lower → v ≡ neg_ℚ left → left ≡ residual inst i -ℚ logical_rest inst i → v ≡ basic_start inst i
  value_lower left v e is of =
      is ∙ ap (λ x. neg_ℚ x) of ∙ ring_ℚ 1 (λ a. ⊝ a ≐ ⊝ 𝟙 ⊗ a) tt (residual inst i -ℚ logical_rest inst i)
      ∙ ap (λ o. cond (is_some o) (sign_past o) one_ℚ *ℚ (residual inst i -ℚ logical_rest inst i)) (sym e)

  pub value_upper : (left : ℚ) → passed_side inst i ≡ Some side.Upper → left ≡ residual inst i -ℚ logical_rest inst i → left ≡ basic_start inst i
  value_upper left e of =
      of ∙ ring_ℚ 1 (λ a. a ≐ 𝟙 ⊗ a) tt (residual inst i -ℚ logical_rest inst i)
      ∙ ap (λ o. cond (is_some o) (sign_past o) one_ℚ *ℚ (residual inst i -ℚ logical_rest inst i)) (sym e)

  pub value_stays : (rest : ℚ) → passed_side inst i ≡ None → rest ≡ residual inst i → rest ≡ basic_start inst i
  value_stays rest e of =
      of ∙ ring_ℚ 1 (λ a. a ≐ 𝟙 ⊗ (a ⊖ 𝟘)) tt (residual inst i)
      ∙ ap₂ (λ o v. cond (is_some o) (sign_past o) one_ℚ *ℚ (residual inst i -ℚ v)) (sym e) (rests_by None e)
