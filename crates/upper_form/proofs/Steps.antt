-- One position's step of each solve.
use Rattle.std.proofs.Common.{◌≡◌, ℕ, ◌^◌, ◌<◌, ◌≤◌, List, [], length, get_or, set, map, reverse, replicate, Some, None, Result, Ok, Err, refl, sym, subst, ◌∙◌, ap, arith}
use Rattle.std.proofs.Math.Pow.{pow-lt}
use Rattle.std.proofs.lemmas.List.{set-get_or, get_or_default, ext_get_or, length-replicate, get_or-replicate}
use Rattle.std.specs.List.{range_with_len}
use Rattle.std.proofs.lemmas.List.FromFn.{get_or-map-range_with_len, length-map-range_with_len}
use Rattle.rational.specs.Rational.{ℚ, zero_ℚ, inverse, ◌/ℚ◌}
use Rattle.rational.specs.Width.{FitsWidth}
use Rattle.rational.specs.Sum.{at}
use Rattle.rational.specs.Worked.{done, work, settle, quotient}
use Rattle.rational.specs.Lines.{gather, subtract}
use Rattle.rational.proofs.FieldLaws.{/ℚ_is}
use Rattle.rational.proofs.RationalRing.{ring_ℚ}
use Rattle.rational.proofs.Ring.{◌≐◌, ◌⊗◌, 𝟘}
use Rattle.rational.proofs.Settling.{settle-done, settle-work, settle-work_none, settle-bind, settle-bind_none}
use Rattle.exact_frac.specs.declared.unfit.Unfit.{Unfit}
use Rattle.exact_frac.specs.Exact.{Exact}
use Rattle.exact_frac.specs.Settles.{Leaves, Settles}
use Rattle.exact_frac.proofs.Working.{settles-exact}
use Rattle.sparse_cols.specs.Sparse.{Sparse}
use Rattle.sparse_steps.proofs.Steps.{subtract_none}
use Rattle.factor_model.specs.Upper.{Triangle, column, row_of, by_position, solve, solve_rows, diagonal, place_one, solve_one, back_item}

-- a column that is read is the form's
pub column_read : (u : Triangle) (p : ℕ) (x : Sparse ℚ) → p < length u.columns → x ≡ get_or u.columns p x → x.pairs ≡ column u p
column_read u p x lt e = ap (λ (c : Sparse ℚ). c.pairs) (e ∙ get_or_default u.columns p x (record { length = 0; pairs = [] }) lt)

-- 0 by any number is 0, which fits each width
zero_by : (d : ℚ) → zero_ℚ /ℚ d ≡ zero_ℚ
zero_by d = /ℚ_is zero_ℚ d ∙ ring_ℚ 1 (λ x. 𝟘 ⊗ x ≐ 𝟘) tt (inverse d)

zero_fits : (w : ℕ) → 1 ≤ w → FitsWidth w zero_ℚ
unfolding zero_ℚ
zero_fits w wide = let more : 2 ^ 0 < 2 ^ w = pow-lt wide in record { numerator_below = omega (arith, more); denominator_below = omega (arith, more) }

module _ (w : ℕ) (wide : 1 ≤ w) (item d : ℚ) (none : item ≡ zero_ℚ) where
  by_none : item /ℚ d ≡ zero_ℚ
  by_none = ap (λ a. a /ℚ d) none ∙ zero_by d

  by_none-fits : FitsWidth w (item /ℚ d)
  by_none-fits = subst (FitsWidth w) (sym by_none) (zero_fits w wide)

  pub quotient-none : settle w (work (item /ℚ d)) ≡ Some item
  quotient-none = settle-work w (item /ℚ d) by_none-fits ∙ ap Some (by_none ∙ sym none)

module _ (w : ℕ) (u : Triangle) (v : List ℚ) (p : ℕ) (x : ℚ) (row : ℕ) (stored : List (ℕ × ℚ)) (same_row : row ≡ row_of u p) (same : stored ≡ column u p) where
  parts : settle w (subtract (row_of u p) x v (column u p)) ≡ settle w (subtract row x v stored)
  parts = ap (λ r. settle w (subtract r x v (column u p))) (sym same_row) ∙ ap (λ c. settle w (subtract row x v c)) (sym same)

  pub place_settles : (rest : List ℚ) → settle w (subtract row x v stored) ≡ Some rest → settle w (place_one u v p x) ≡ Some (set rest row x)
  unfolding place_one
  place_settles rest e =
      settle-bind w (subtract (row_of u p) x v (column u p)) (λ left. done (set left (row_of u p) x)) rest (parts ∙ e)
      ∙ ap (λ r. settle w (done (set rest r x))) (sym same_row) ∙ settle-done w (set rest row x)

  pub place_stops : settle w (subtract row x v stored) ≡ None → settle w (place_one u v p x) ≡ None
  unfolding place_one
  place_stops e = settle-bind_none w (subtract (row_of u p) x v (column u p)) (λ left. done (set left (row_of u p) x)) (parts ∙ e)

-- ---- solving in rows

module _ (w : ℕ) (u : Triangle) (v : List ℚ) (p : ℕ) (item : ℚ) (same : item ≡ at v (row_of u p)) where
  module _ (d : ℚ) (diagonal_is : d ≡ diagonal u p) where
    quotient_same : at v (row_of u p) /ℚ diagonal u p ≡ item /ℚ d
    quotient_same = ap (λ a. a /ℚ diagonal u p) (sym same) ∙ ap (λ b. item /ℚ b) (sym diagonal_is)

    left_one : (x : ℚ) → (x ≡ item /ℚ d) × FitsWidth w (item /ℚ d) → settle w (solve_one u v p) ≡ settle w (place_one u v p x)
    unfolding solve_one quotient
    left_one x fits =
        settle-bind w (work (at v (row_of u p) /ℚ diagonal u p)) (place_one u v p) x
        (ap (λ a. settle w (work a)) quotient_same ∙ settle-work w (item /ℚ d) fits.1 ∙ ap Some (sym fits.0))

    pub placed : {B : Type 0} (z : ℕ) (x : ℚ) (r : Result B Unfit) (left : List ℚ) → z ≡ w → (x ≡ item /ℚ d) × FitsWidth w (item /ℚ d)
        → Leaves z (place_one u v p x) r left → Leaves w (solve_one u v p) r left
    placed z x (Ok b) left e fits h = left_one x fits ∙ ap (λ k. settle k (place_one u v p x)) (sym e) ∙ h
    placed z x (Err f) left e fits h = left_one x fits ∙ ap (λ k. settle k (place_one u v p x)) (sym e) ∙ h

    pub not_placed : ¬ FitsWidth w (item /ℚ d) → settle w (solve_one u v p) ≡ None
    unfolding solve_one quotient
    not_placed unfit =
        settle-bind_none w (work (at v (row_of u p) /ℚ diagonal u p)) (place_one u v p)
        (ap (λ a. settle w (work a)) quotient_same ∙ settle-work_none w (item /ℚ d) unfit)

  -- where the item is 0 the vector stays
  pub nothing_placed : 1 ≤ w → item ≡ zero_ℚ → settle w (solve_one u v p) ≡ Some v
  nothing_placed wide none =
      let row = row_of u p in
      let d = diagonal u p in
      left_one d refl zero_ℚ (sym (by_none w wide item d none), by_none-fits w wide item d none)
      ∙ place_settles w u v p zero_ℚ row (column u p) refl refl v (subtract_none w row zero_ℚ v (column u p) refl)
      ∙ ap (λ a. Some (set v row a)) (sym none ∙ same) ∙ ap Some (set-get_or v row zero_ℚ)

-- ---- solving for a row

module _ (w : ℕ) (u : Triangle) (c z : List ℚ) (p : ℕ) (cost : ℚ) (row : ℕ) (stored : List (ℕ × ℚ)) (same_cost : cost ≡ at c p) (same_row : row ≡ row_of u p) (same : stored ≡ column u p) where
  gathered : settle w (gather (row_of u p) z (at c p) (column u p)) ≡ settle w (gather row z cost stored)
  gathered =
      ap (λ r. settle w (gather r z (at c p) (column u p))) (sym same_row) ∙ ap (λ a. settle w (gather row z a (column u p))) (sym same_cost)
      ∙ ap (λ s. settle w (gather row z cost s)) (sym same)

  pub item_stops : settle w (gather row z cost stored) ≡ None → settle w (back_item u c z p) ≡ None
  unfolding back_item
  item_stops e = settle-bind_none w (gather (row_of u p) z (at c p) (column u p)) (λ rest. quotient rest (diagonal u p)) (gathered ∙ e)

  divided : (k : ℕ) (rest d : ℚ) → k ≡ w → d ≡ diagonal u p → settle w (gather row z cost stored) ≡ Some rest
      → settle w (back_item u c z p) ≡ settle k (work (rest /ℚ d))
  unfolding back_item quotient
  divided k rest d e f h =
      settle-bind w (gather (row_of u p) z (at c p) (column u p)) (λ left. work (left /ℚ diagonal u p)) rest (gathered ∙ h)
      ∙ ap (λ b. settle w (work (rest /ℚ b))) (sym f) ∙ ap (λ j. settle j (work (rest /ℚ d))) (sym e)

  pub item_settles : (k : ℕ) (rest d : ℚ) (r : Result ℚ Unfit) → k ≡ w → d ≡ diagonal u p → settle w (gather row z cost stored) ≡ Some rest
      → Exact k (rest /ℚ d) r → Settles w (back_item u c z p) r
  item_settles k rest d (Ok a) e f h exact = divided k rest d e f h ∙ settles-exact k (rest /ℚ d) (Ok a) exact
  item_settles k rest d (Err b) e f h exact = divided k rest d e f h ∙ settles-exact k (rest /ℚ d) (Err b) exact

  -- what is 0 stays 0 by the diagonal
  pub item_none : (rest : ℚ) → 1 ≤ w → rest ≡ zero_ℚ → settle w (gather row z cost stored) ≡ Some rest → settle w (back_item u c z p) ≡ Some rest
  item_none rest wide none h =
      divided w rest (diagonal u p) refl refl h ∙ quotient-none w wide rest (diagonal u p) none

-- ---- buffers

pub is_cleared : (out : List ℚ) (n : ℕ) → length out ≡ n → ((k : ℕ) → k < n → at out k ≡ zero_ℚ) → out ≡ replicate n zero_ℚ
is_cleared out n e zero_at =
    ext_get_or zero_ℚ out (replicate n zero_ℚ) (e ∙ sym (length-replicate n zero_ℚ))
    (λ k lt. zero_at k (omega (arith, lt, e)) ∙ sym (get_or-replicate n k zero_ℚ zero_ℚ (omega (arith, lt, e))))

pub is_by_position : (u : Triangle) (rows out : List ℚ) → length out ≡ length u.rows → ((k : ℕ) → k < length u.rows → at out k ≡ at rows (row_of u k)) → out ≡ by_position u rows
is_by_position u rows out e each =
    let n = length u.rows in
    let f : ℕ → ℚ = λ p. at rows (row_of u p) in
    ext_get_or zero_ℚ out (map f (range_with_len 0 n)) (e ∙ sym (length-map-range_with_len f 0 n))
    (λ k lt. each k (omega (arith, lt, e)) ∙ sym (get_or-map-range_with_len f 0 n k k zero_ℚ (omega (arith, lt, e)) (omega arith)))

pub solved : (w : ℕ) (u : Triangle) (v rows out : List ℚ) → settle w (solve_rows u v (reverse u.order)) ≡ Some rows → out ≡ by_position u rows → settle w (solve u v) ≡ Some out
solved w u v rows out e same =
    settle-bind w (solve_rows u v (reverse u.order)) (λ r. done (by_position u r)) rows e ∙ settle-done w (by_position u rows) ∙ ap Some (sym same)

pub not_solved : (w : ℕ) (u : Triangle) (v : List ℚ) → settle w (solve_rows u v (reverse u.order)) ≡ None → settle w (solve u v) ≡ None
not_solved w u v e = settle-bind_none w (solve_rows u v (reverse u.order)) (λ r. done (by_position u r)) e
