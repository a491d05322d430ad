-- The listing of a swap, part by part.
use Rattle.std.proofs.Common.{◌≡◌, ℕ, zero, suc, ◌+◌, ◌<◌, ◌≤◌, List, ◌++◌, flat_map, Some, Result, Ok, Err, IsErrAnd, refl, sym, ◌∙◌, ap, ap₂, subst, arith}
use Rattle.std.specs.List.{range_with_len}
use Rattle.std.proofs.lemmas.Result.{err_from_is_err_and}
use Rattle.lp_model.specs.declared.Place.{Place}
use Rattle.rational.specs.Sparse.{upto}
use Rattle.lp_run.specs.Listing.{AllFit, Listed, first_unfit, Judges}
use Rattle.lp_run.proofs.FirstUnfit.{fit-append, unfit-append}

-- ── the same parts list the same ──

same_from : (f g : ℕ → List Listed) (a n : ℕ) → ((k : ℕ) → a ≤ k → k < a + n → f k ≡ g k) → flat_map f (range_with_len a n) ≡ flat_map g (range_with_len a n)
same_from f g a zero e = refl
same_from f g a (suc n) e = ap₂ (λ xs ys. xs ++ ys) (e a (omega arith) (omega arith)) (same_from f g (a + 1) n (λ k from below. e k (omega arith) (omega arith)))

pub same_parts : (f g : ℕ → List Listed) (n : ℕ) → ((k : ℕ) → k < n → f k ≡ g k) → flat_map f (upto n) ≡ flat_map g (upto n)
same_parts f g n e = same_from f g 0 n (λ k from below. e k (omega arith))

-- ── one part after another ──

module _ (w : ℕ) (xs ys : List Listed) where
  -- the first part fits, and the second one decides
  pub judged_next : {A : Type 0} (r : Result A Place) → AllFit w xs → Judges w ys r → Judges w (xs ++ ys) r
  judged_next (Ok a) fits h = fit-append w xs ys fits ∙ h
  judged_next (Err here) fits h = fit-append w xs ys fits ∙ h

  -- the first part decides
  pub judged_first : (here : Place) → first_unfit w xs ≡ Some here → first_unfit w (xs ++ ys) ≡ Some here
  judged_first here e = unfit-append w xs ys here e

-- an answer that is an error is handed on
pub judged_on : {A : Type 0} (w u : ℕ) (vs : List Listed) (here : Place) (r : Result A Place) → u ≡ w → first_unfit u vs ≡ Some here → IsErrAnd r (λ first. first ≡ here) → Judges w vs r
judged_on w u vs here r same unfit refused =
    let at = err_from_is_err_and r refused in subst (λ r. Judges w vs r) (sym at.1) (subst (λ w. first_unfit w vs ≡ Some here) same unfit ∙ ap Some (sym at.2))
