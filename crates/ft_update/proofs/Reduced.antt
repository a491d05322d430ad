-- What an update works, from its two parts.
use Rattle.std.proofs.Common.{◌≡◌, ℕ, ◌<◌, List, [], length, Some, None, Result, Ok, Err, MatchResult, sym, subst, ap, ◌∙◌}
use Rattle.rational.specs.Rational.{ℚ}
use Rattle.rational.specs.Sum.{at}
use Rattle.rational.specs.Worked.{Worked, done, bind, settle}
use Rattle.rational.proofs.Settling.{settle-done, settle-bind, settle-bind_none, settle-answer}
use Rattle.exact_frac.specs.declared.unfit.Unfit.{Unfit}
use Rattle.exact_frac.specs.Settles.{Settles}
use Rattle.factor_model.specs.Upper.{Triangle, IsUpper, row_of}
use Rattle.factor_model.specs.Update.{AreApart, RowEta, behind, less_multiples, multipliers, update}
use Rattle.factor_model.proofs.UpdateLaws.{taken-apart}

pub taken-apart_at : (w : ℕ) (u : Triangle) (upper : IsUpper (length u.rows) u) (p : ℕ) (lt : p < length u.rows) (spike : List ℚ) (len : length spike ≡ length u.rows) (ks : List (ℕ × ℚ))
    → settle w (multipliers u (row_of u p) [] (behind p u.order)) ≡ Some ks → AreApart (length u.rows) ks
taken-apart_at w u upper p lt spike len ks e =
    subst (AreApart (length u.rows)) (settle-answer w (multipliers u (row_of u p) [] (behind p u.order)) ks e) (taken-apart u upper p lt spike len)

module _ (w v : ℕ) (u : Triangle) (p : ℕ) (spike : List ℚ) (ks xs : List (ℕ × ℚ)) (item : ℚ) (read : item ≡ at spike (row_of u p)) (same : v ≡ w) (is : xs ≡ ks)
    (taken : settle w (multipliers u (row_of u p) [] (behind p u.order)) ≡ Some ks) where
  last : Worked RowEta
  last = bind (less_multiples (at spike) (at spike (row_of u p)) ks) (λ d. done (record { taken = ks; pivot = d }))

  begun : settle w (update u p spike) ≡ settle w last
  unfolding last
  begun =
      settle-bind w (multipliers u (row_of u p) [] (behind p u.order))
      (λ ms. bind (less_multiples (at spike) (at spike (row_of u p)) ms) (λ d. done (record { taken = ms; pivot = d }))) ks taken

  inner : settle w (less_multiples (at spike) (at spike (row_of u p)) ks) ≡ settle v (less_multiples (at spike) item xs)
  inner =
      ap (λ x. settle w (less_multiples (at spike) x ks)) (sym read) ∙ ap (λ ms. settle w (less_multiples (at spike) item ms)) (sym is)
      ∙ ap (λ k. settle k (less_multiples (at spike) item xs)) (sym same)

  pub reduced : (r : Result ℚ Unfit) → Settles v (less_multiples (at spike) item xs) r
      → MatchResult r (λ d. settle w (update u p spike) ≡ Some (record { taken = ks; pivot = d })) (λ _. settle w (update u p spike) ≡ None)
  unfolding last
  reduced (Ok d) h =
      begun ∙ settle-bind w (less_multiples (at spike) (at spike (row_of u p)) ks) (λ x. done (record { taken = ks; pivot = x })) d (inner ∙ h)
      ∙ settle-done w (record { taken = ks; pivot = d })
  reduced (Err f) h =
      begun ∙ settle-bind_none w (less_multiples (at spike) (at spike (row_of u p)) ks) (λ x. done (record { taken = ks; pivot = x })) (inner ∙ h)

pub not_reduced : (w : ℕ) (u : Triangle) (p : ℕ) (spike : List ℚ) → settle w (multipliers u (row_of u p) [] (behind p u.order)) ≡ None → settle w (update u p spike) ≡ None
not_reduced w u p spike e =
    settle-bind_none w (multipliers u (row_of u p) [] (behind p u.order))
    (λ ms. bind (less_multiples (at spike) (at spike (row_of u p)) ms) (λ d. done (record { taken = ms; pivot = d }))) e
