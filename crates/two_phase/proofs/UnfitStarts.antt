-- A basic value of the start that does not fit: the work for the start meets it, and so does the making of the plain table.
use Rattle.std.proofs.Common.{◌≡◌, ℕ, zero, suc, ◌+◌, ◌<◌, List, [], ◌∷◌, ◌++◌, map, Bool, true, false, cond, Option, Some, None, refl, sym, ◌∙◌, ap, subst, arith}
use Rattle.std.specs.List.{range_with_len}
use Rattle.lp_model.specs.declared.Kind.TheVariants as kind
use Rattle.lp_model.specs.declared.Place.{Place}
use Rattle.rational.specs.Rational.{ℚ, zero_ℚ}
use Rattle.rational.specs.Sparse.{upto}
use Rattle.rational.specs.Sum.{at}
use Rattle.rational.specs.Width.{fits_width}
use Rattle.rational.proofs.VectorLaws.{get-map-upto}
use Rattle.lp_run.specs.Instance.{Instance, IsWellFormed, row_count}
use Rattle.lp_run.specs.Listing.{AllFit, Listed, costs_listing, entries_listing, first_unfit, place}
use Rattle.lp_run.specs.State.{start_of}
use Rattle.lp_run.proofs.FirstUnfit.{one-unfit, singles}
use Rattle.lp_run.proofs.Kept.{regular_from_table}
use Rattle.lp_run.proofs.Regularity.{one_values}
use Rattle.lp_run.proofs.Start.{start_has_table}
use Rattle.table_laws.specs.Fitted.{HasFitted}
use Rattle.plain_table.specs.Inner.Starts.{basic_start, start_values_listing}
use Rattle.plain_table.proofs.Residuals.{fit_left}
use Rattle.plain_table.proofs.StartSolves.{values_solve}
use Rattle.plain_table.proofs.StartValues.{fit_right, part_fits}
use Rattle.factor_run.specs.Calm.{IsCalm}
use Rattle.factor_run.proofs.Calmness.{no_unfit_value}
use Rattle.two_phase.specs.Board.{StartsUnfit}

-- the value in position p, in its place
abbrev in_place : (ℕ → ℚ) → ℕ → Place × ℚ
in_place v p = (place 0 kind.Value (Some p) None, v p)

module _ (w : ℕ) (v : ℕ → ℚ) where
  unfit_from : (a n : ℕ) (here : Place) → first_unfit w (map (in_place v) (range_with_len a n)) ≡ Some here → (p : ℕ) × (p < a + n) × (fits_width w (v p) ≡ false)
  unfit_from a zero here e = absurd (cc e)
  unfit_from a (suc n) here e = by_test (unfit_from (a + 1) n here) (fits_width w (v a)) refl e
    where
      rest : List Listed
      rest = map (in_place v) (range_with_len (a + 1) n)

      by_test : (first_unfit w rest ≡ Some here → (p : ℕ) × (p < a + 1 + n) × (fits_width w (v p) ≡ false)) → (t : Bool) → fits_width w (v a) ≡ t
          → cond t (first_unfit w rest) (Some (place 0 kind.Value (Some a) None)) ≡ Some here → (p : ℕ) × (p < a + suc n) × (fits_width w (v p) ≡ false)
      by_test further false is e = (a, omega arith, is)
      by_test further true is e = let (p, below, unfit) = further e in (p, omega (arith, below), unfit)

  fits_not : (n p : ℕ) → p < n → fits_width w (v p) ≡ false → AllFit w (map (in_place v) (upto n)) → ⊥
  fits_not n p below unfit all =
      let one = part_fits w (λ p. in_place v p ∷ []) n p below (subst (AllFit w) (singles w (in_place v) 0 n) all) in
      apart (sym one ∙ one-unfit w (place 0 kind.Value (Some p) None) (v p) unfit)
    where
      apart : None ≡ Some (place 0 kind.Value (Some p) None) → ⊥
      apart e = cc e

module _ (w : ℕ) (inst : Instance) (well_formed : IsWellFormed inst) where
  -- the work for the basic values meets it
  pub starts_unfit : (here : Place) → first_unfit w (start_values_listing inst) ≡ Some here → StartsUnfit w inst
  starts_unfit here e =
      let m = row_count inst in
      let (p, within, unfit) = unfit_from w (basic_start inst) 0 m here e in
      let below : p < m = omega (arith, within) in
      (map (basic_start inst) (upto m), p, values_solve inst well_formed, below, ap (fits_width w) (get-map-upto (basic_start inst) zero_ℚ m p below) ∙ unfit)

  -- where all fits that the making of the table works, each basic value does
  pub no_unfit_start : HasFitted w inst [] → StartsUnfit w inst → ⊥
  no_unfit_start h (β, p, values, below, unfit) =
      let (made, stepped, (table, β', columns, values', made_is), steps, before_is) = h.worked in
      let m = row_count inst in
      let basic = map (in_place (at β')) (upto m) in
      let one = one_values inst (start_of inst) (regular_from_table inst (start_of inst) (start_has_table inst)) β β' values values' in
      let making = subst (AllFit w) made_is (fit_left w made stepped (subst (AllFit w) before_is h.fits)) in
      fits_not w (at β') m p below (subst (λ β. fits_width w (at β p) ≡ false) one unfit)
      (fit_right w (entries_listing inst) basic (fit_left w (entries_listing inst ++ basic) (costs_listing inst 0 (start_of inst) table) making))

-- on a calm instance there is none
pub calm_start : (w : ℕ) (inst : Instance) → IsCalm w inst → StartsUnfit w inst → ⊥
calm_start w inst calm (β, p, values, below, unfit) = by (first_unfit w basic) refl
  where
    basic : List Listed
    basic = map (in_place (at β)) (upto (row_count inst))

    by : (o : Option Place) → first_unfit w basic ≡ o → ⊥
    by None fits = fits_not w (at β) (row_count inst) p below unfit fits
    by (Some here) first = no_unfit_value w inst calm β values here first
