-- Exchanging the items of rows and positions, one position after another.
use Rattle.std.proofs.Common.{◌≡◌, ◌≢◌, ℕ, ◌+◌, ◌<◌, ◌≤◌, List, length, set, sym, ◌∙◌, ap, subst, ⊎_elim, arith}
use Rattle.std.proofs.lemmas.Bool.{cases_eq}
use Rattle.std.proofs.lemmas.List.{get_or-set_same, get_or-set_other}
use Rattle.rational.specs.Rational.{ℚ, zero_ℚ}
use Rattle.rational.specs.Sum.{at}
use Rattle.rational.proofs.VectorLaws.{get-map-upto, same_vectors}
use Rattle.factor_model.specs.Upper.{Triangle, IsUpper, row_of, by_position}
use Rattle.factor_model.proofs.UpperShape.{row_below, position_of_row, order_below}
use Rattle.factor_model.proofs.EditLaws.{rows_apart}

module _ (u : Triangle) (upper : IsUpper (length u.rows) u) (p : ℕ) (p_lt : p < length u.rows) (row : ℕ) (same : row ≡ row_of u p) where
  row_lt : row_of u p < length u.rows
  row_lt = row_below (length u.rows) u upper p p_lt

  apart : (k : ℕ) → k < length u.rows → k ≢ p → row_of u k ≢ row
  apart k lt ne e = rows_apart (length u.rows) u upper p k p lt p_lt ne (e ∙ same)

  pub positions_more : (positions old rows old_rows : List ℚ) (x : ℚ) → x ≡ at rows row → length positions ≡ length u.rows
      → ((k : ℕ) → k < p → at positions k ≡ at old_rows (row_of u k)) → ((k : ℕ) → p ≤ k → k < length u.rows → at rows (row_of u k) ≡ at old_rows (row_of u k))
      → (k : ℕ) → k < p + 1 → at (set positions p x) k ≡ at old_rows (row_of u k)
  positions_more positions old rows old_rows x read len before left k below =
      ⊎_elim
      (λ (e : k ≡ p).
      subst (λ j. at (set positions p x) j ≡ at old_rows (row_of u j)) (sym e)
      (get_or-set_same positions p x zero_ℚ (omega (arith, p_lt, len)) ∙ read ∙ ap (at rows) same ∙ left p (omega arith) p_lt))
      (λ (ne : k ≢ p). get_or-set_other positions p k x zero_ℚ ne ∙ before k (omega (arith, ne)))
      (cases_eq k p)

  pub rows_more : (positions old rows : List ℚ) (y : ℚ) → y ≡ at positions p → length rows ≡ length u.rows
      → ((k : ℕ) → p ≤ k → at positions k ≡ at old k) → ((k : ℕ) → k < p → at rows (row_of u k) ≡ at old k)
      → (k : ℕ) → k < p + 1 → at (set rows row y) (row_of u k) ≡ at old k
  rows_more positions old rows y read len left before k below =
      ⊎_elim
      (λ (e : k ≡ p).
      subst (λ j. at (set rows row y) (row_of u j) ≡ at old j) (sym e)
      (subst (λ r. at (set rows row y) r ≡ at old p) same (get_or-set_same rows row y zero_ℚ (omega (arith, row_lt, same, len)) ∙ read ∙ left p (omega arith))))
      (λ (ne : k ≢ p).
      get_or-set_other rows row (row_of u k) y zero_ℚ (apart k (omega (arith, below, p_lt)) ne) ∙ before k (omega (arith, ne)))
      (cases_eq k p)

  pub rows_rest : (rows old : List ℚ) (y : ℚ) → ((k : ℕ) → p ≤ k → k < length u.rows → at rows (row_of u k) ≡ at old (row_of u k))
      → (k : ℕ) → p + 1 ≤ k → k < length u.rows → at (set rows row y) (row_of u k) ≡ at old (row_of u k)
  rows_rest rows old y left k le lt =
      get_or-set_other rows row (row_of u k) y zero_ℚ (apart k lt (λ e. omega (arith, le, e))) ∙ left k (omega (arith, le)) lt

pub positions_rest : (p : ℕ) (positions old : List ℚ) (x : ℚ) → ((k : ℕ) → p ≤ k → at positions k ≡ at old k) → (k : ℕ) → p + 1 ≤ k → at (set positions p x) k ≡ at old k
positions_rest p positions old x left k le = get_or-set_other positions p k x zero_ℚ (λ e. omega (arith, le, e)) ∙ left k (omega (arith, le))

-- vectors by row are the same where they are by position
pub same_by_position : (u : Triangle) → IsUpper (length u.rows) u → (v w : List ℚ) → length v ≡ length u.rows → length w ≡ length u.rows → by_position u v ≡ by_position u w → v ≡ w
same_by_position u upper v w e f same =
    same_vectors v w (length u.rows) e f
    (λ r lt.
    let there = position_of_row (length u.rows) u upper r lt in
    let p_lt = order_below (length u.rows) u upper there.0 there.1 in
    subst (λ k. at v k ≡ at w k) (sym there.2)
    (sym (get-map-upto (λ p. at v (row_of u p)) zero_ℚ (length u.rows) there.0 p_lt) ∙ ap (λ xs. at xs there.0) same
    ∙ get-map-upto (λ p. at w (row_of u p)) zero_ℚ (length u.rows) there.0 p_lt))
