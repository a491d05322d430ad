-- Multipliers whose rows are flagged.
use Rattle.std.proofs.Common.{◌≡◌, ◌≢◌, ℕ, ◌<◌, ◌≤◌, ◌++◌, Bool, true, false, List, [], ◌∷◌, length, set, Some, inr, ⊎_elim, refl, sym, ap, ◌∙◌}
use Rattle.std.proofs.lemmas.Bool.{cases_eq}
use Rattle.std.proofs.lemmas.List.{get_or-set_same, get_or-set_other}
use Rattle.rational.specs.Rational.{ℚ, zero_ℚ}
use Rattle.rational.specs.Worked.{less, settle}
use Rattle.rational.proofs.Settling.{settle-done, settle-bind}
use Rattle.sparse_steps.proofs.Steps.{skipped}
use Rattle.factor_model.specs.Vectors.{entry}
use Rattle.factor_model.specs.Upper.{Triangle, column}
use Rattle.factor_model.specs.Update.{less_multiples, multiplier}
use Rattle.upper_form.specs.Flags.{is_flagged, meets}
use Rattle.upper_form.proofs.Flagging.{entry-unmet}
use Rattle.ft_update.specs.Inner.Flagged.{AreFlagged}
use Rattle.ft_update.proofs.Steps.{multiplier_none}

-- a column with no entry in the multipliers' rows leaves a number as it is
pub less-unmet : (w : ℕ) (flags : List Bool) (pairs ks : List (ℕ × ℚ)) (x : ℚ) → meets flags pairs ≡ false → AreFlagged flags ks
    → settle w (less_multiples (entry pairs) x ks) ≡ Some x
less-unmet w flags pairs [] x none flagged = settle-done w x
less-unmet w flags pairs ((i, k) ∷ ks) x none flagged =
    settle-bind w (less x k (entry pairs i)) (λ rest. less_multiples (entry pairs) rest ks) x
    (skipped w x k (entry pairs i) (inr (entry-unmet flags pairs i none flagged.0)))
    ∙ less-unmet w flags pairs ks x none flagged.1

-- the multiplier of a position whose column has no entry in a flagged row is 0
pub multiplier-unmet : (w : ℕ) (u : Triangle) (r s : ℕ) (flags : List Bool) (ks : List (ℕ × ℚ)) → 1 ≤ w → meets flags (column u s) ≡ false → is_flagged flags r ≡ true → AreFlagged flags ks
    → settle w (multiplier u r ks s) ≡ Some zero_ℚ
multiplier-unmet w u r s flags ks wide none here flagged =
    multiplier_none w u r ks s zero_ℚ (sym (entry-unmet flags (column u s) r none here)) zero_ℚ wide refl (less-unmet w flags (column u s) ks zero_ℚ none flagged)

-- ---- one flag more

module _ (flags : List Bool) (row : ℕ) (within : row < length flags) where
  pub here : is_flagged (set flags row true) row ≡ true
  here = get_or-set_same flags row true false within

  pub still : (i : ℕ) → is_flagged flags i ≡ true → is_flagged (set flags row true) i ≡ true
  still i flagged =
      ⊎_elim
      (λ (e : i ≡ row). ap (is_flagged (set flags row true)) e ∙ here)
      (λ (ne : i ≢ row). get_or-set_other flags row i true false ne ∙ flagged)
      (cases_eq i row)

  pub flagged_more : (ks : List (ℕ × ℚ)) (k : ℚ) → AreFlagged flags ks → AreFlagged (set flags row true) (ks ++ (row, k) ∷ [])
  flagged_more [] k flagged = (here, tt)
  flagged_more ((i, x) ∷ ks) k flagged = (still i flagged.0, flagged_more ks k flagged.1)
