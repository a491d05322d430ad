-- What the parts of a solve come to, and how much they work.
use Rattle.std.proofs.Common.{◌≡◌, ℕ, ◌+◌, ◌*◌, ◌<◌, ◌≤◌, List, [], ◌∷◌, length, reverse, Some, None, Result, Ok, Err, IsErrAnd, sym, ◌∙◌, ap, subst, arith}
use Rattle.std.specs.Result.{OnOk}
use Rattle.std.proofs.lemmas.List.{length-reverse}
use Rattle.std.proofs.lemmas.Result.{err_from_is_err_and}
use Rattle.std.proofs.lemmas.List.Sums.{sum_by-cons}
use Rattle.rational.specs.Rational.{ℚ, zero_ℚ}
use Rattle.rational.specs.Matrix.{matrix_times, times_matrix}
use Rattle.rational.specs.Sum.{at}
use Rattle.rational.specs.Worked.{Worked, done, bind, settle}
use Rattle.rational.proofs.Settling.{settle-done, settle-bind, settle-bind_none}
use Rattle.rational.proofs.VectorLaws.{get-map-upto, length-map-upto}
use Rattle.sparse_cols.specs.Sparse.{IsRising}
use Rattle.exact_frac.specs.declared.unfit.Unfit.{Unfit}
use Rattle.exact_frac.specs.Settles.{Leaves}
use Rattle.factor_model.specs.Eta.{apply, apply_back}
use Rattle.factor_model.specs.Upper.{Triangle, IsUpper, Solves, column, solve, solve_back, solve_work}
use Rattle.factor_model.specs.Factors.{Factors, AreFactors, ftran, btran}
use Rattle.factor_model.specs.Vectors.{entry, vector}
use Rattle.factor_model.proofs.FactorLaws.{ftran-spike, ftran-form, ftran-solves, btran-solves}
use Rattle.ftran_btran.specs.Kept.{AreKept, size}
use Rattle.factor_model.proofs.UpperShape.{order_length}

-- what does not settle answers a refusal, which is handed on
pub refused : {A B : Type 0} {e : Unfit} (w : ℕ) (c : Worked A) (r : Result B Unfit) (left : A) → settle w c ≡ None → IsErrAnd r (λ f. f ≡ e) → Leaves w c r left
refused w c r left none is = let at = err_from_is_err_and r is in subst (λ s. Leaves w c s left) (sym at.1) none

-- ---- for a column

module _ (w k : ℕ) (f : Factors) (a spike : List ℚ) (same : k ≡ w) (applied : settle w (apply a f.etas) ≡ Some spike) where
  begun : settle w (ftran f a) ≡ settle k (bind (solve f.upper spike) (λ x. done (spike, x)))
  begun =
      settle-bind w (apply a f.etas) (λ s. bind (solve f.upper s) (λ x. done (s, x))) spike applied
      ∙ ap (λ j. settle j (bind (solve f.upper spike) (λ x. done (spike, x)))) (sym same)

  pub ftran_leaves : {B : Type 0} (r : Result B Unfit) (kept x : List ℚ) → Leaves k (solve f.upper spike) r x → OnOk r (kept ≡ spike) → Leaves w (ftran f a) r (kept, x)
  ftran_leaves (Ok b) kept x settled same_spike =
      begun ∙ settle-bind k (solve f.upper spike) (λ y. done (spike, y)) x settled ∙ settle-done k (spike, x) ∙ ap (λ s. Some (s, x)) (sym same_spike)
  ftran_leaves (Err e) kept x settled same_spike = begun ∙ settle-bind_none k (solve f.upper spike) (λ y. done (spike, y)) settled

pub ftran_stops : (w : ℕ) (f : Factors) (a : List ℚ) → settle w (apply a f.etas) ≡ None → settle w (ftran f a) ≡ None
ftran_stops w f a e = settle-bind_none w (apply a f.etas) (λ s. bind (solve f.upper s) (λ x. done (s, x))) e

pub ftran_means : {B : Type 0} (w n : ℕ) (f : Factors) (pairs : List (ℕ × ℚ)) (r : Result B Unfit) (both : List ℚ × List ℚ) → Leaves w (ftran f (vector n (entry pairs))) r both
    → (b : ℕ → ℕ → ℚ) → AreFactors n f b → OnOk r ((i : ℕ) → i < n → matrix_times n b (at both.1) i ≡ entry pairs i)
ftran_means w n f pairs (Ok x) both settled b factors =
    λ i lt. ftran-solves w n f b factors (vector n (entry pairs)) (length-map-upto (entry pairs) n) both settled i lt ∙ get-map-upto (entry pairs) zero_ℚ n i lt
ftran_means w n f pairs (Err e) both settled b factors = tt

pub ftran_leaves_spike : {B : Type 0} (w : ℕ) (f : Factors) (a : List ℚ) (r : Result B Unfit) (both : List ℚ × List ℚ) → Leaves w (ftran f a) r both
    → OnOk r (both.0 ≡ (apply a f.etas).answer)
ftran_leaves_spike w f a (Ok x) both settled = ftran-spike w f a both settled
ftran_leaves_spike w f a (Err e) both settled = tt

pub ftran_leaves_form : {B : Type 0} (w : ℕ) (f : Factors) → AreKept f → (pairs : List (ℕ × ℚ)) (r : Result B Unfit) (both : List ℚ × List ℚ)
    → Leaves w (ftran f (vector (size f) (entry pairs))) r both → OnOk r (Solves f.upper both.1 both.0)
ftran_leaves_form w f kept pairs (Ok x) both settled = ftran-form w f (size f) kept.upper (vector (size f) (entry pairs)) (length-map-upto (entry pairs) (size f)) both settled
ftran_leaves_form w f kept pairs (Err e) both settled = tt

-- ---- for a row

pub btran_leaves : {B : Type 0} (w k : ℕ) (f : Factors) (c z : List ℚ) → k ≡ w → settle w (solve_back f.upper c) ≡ Some z
    → (r : Result B Unfit) (y : List ℚ) → Leaves k (apply_back z f.etas) r y → Leaves w (btran f c) r y
btran_leaves w k f c z same solved (Ok b) y settled =
    settle-bind w (solve_back f.upper c) (λ v. apply_back v f.etas) z solved ∙ ap (λ j. settle j (apply_back z f.etas)) (sym same) ∙ settled
btran_leaves w k f c z same solved (Err e) y settled =
    settle-bind w (solve_back f.upper c) (λ v. apply_back v f.etas) z solved ∙ ap (λ j. settle j (apply_back z f.etas)) (sym same) ∙ settled

pub btran_stops : (w : ℕ) (f : Factors) (c : List ℚ) → settle w (solve_back f.upper c) ≡ None → settle w (btran f c) ≡ None
btran_stops w f c e = settle-bind_none w (solve_back f.upper c) (λ v. apply_back v f.etas) e

pub btran_means : {B : Type 0} (w n : ℕ) (f : Factors) (c : List ℚ) (r : Result B Unfit) (y : List ℚ) → Leaves w (btran f c) r y
    → (b : ℕ → ℕ → ℚ) → AreFactors n f b → OnOk r ((p : ℕ) → p < n → times_matrix n (at y) b p ≡ at c p)
btran_means w n f c (Ok x) y settled b factors = btran-solves w n f b factors c y settled
btran_means w n f c (Err e) y settled b factors = tt

-- ---- work

rising-length : (n from : ℕ) (pairs : List (ℕ × ℚ)) → from ≤ n → IsRising n from pairs → from + length pairs ≤ n
rising-length n from [] le rising = omega arith
rising-length n from (p ∷ pairs) le rising =
    let more : p.0 + 1 + length pairs ≤ n = rising-length n (p.0 + 1) pairs (omega (arith, rising.1)) rising.2 in
    omega (arith, rising.0, more)

module _ (n : ℕ) (u : Triangle) (upper : IsUpper n u) where
  work-along : (ps : List ℕ) → solve_work u ps ≤ length ps * (1 + n)
  work-along [] = omega arith
  work-along (p ∷ ps) =
      let one : length (column u p) ≤ n = omega (arith, rising-length n 0 (column u p) (omega arith) (upper.rising p)) in
      omega (arith, sum_by-cons (λ q. 1 + length (column u q)) p ps, one, work-along ps)

  pub work-on : solve_work u u.order ≤ n * n + n
  work-on = subst (λ (m : ℕ). solve_work u u.order ≤ m) (ap (λ m. m * (1 + n)) (order_length n u upper) ∙ spread n) (work-along u.order)
    where
      spread : (m : ℕ) → m * (1 + m) ≡ m * m + m
      spread m = omega arith

  pub work-back : solve_work u (reverse u.order) ≤ n * n + n
  work-back = subst (λ (m : ℕ). solve_work u (reverse u.order) ≤ m) (ap (λ m. m * (1 + n)) (length-reverse u.order ∙ order_length n u upper) ∙ spread n) (work-along (reverse u.order))
    where
      spread : (m : ℕ) → m * (1 + m) ≡ m * m + m
      spread m = omega arith
