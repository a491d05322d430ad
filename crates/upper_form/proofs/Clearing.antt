-- The columns are cleared one after another.
use Rattle.std.proofs.Common.{◌≡◌, ℕ, ◌+◌, ◌<◌, ◌≤◌, cond, eqb, List, [], length, get_or, set, sym, ◌∙◌, ap, subst, arith, ext_get_or, ⊎_elim}
use Rattle.std.proofs.lemmas.Bool.{cases_eq}
use Rattle.std.proofs.lemmas.List.{get_or_default, get_or-set_same, get_or-set_other}
use Rattle.rational.specs.Rational.{ℚ}
use Rattle.rational.proofs.VectorLaws.{get-map-upto, length-map-upto}
use Rattle.sparse_cols.specs.Sparse.{Sparse, without_row}
use Rattle.factor_model.specs.Edits.{column_in, cleared_column, cleared_columns}

module _ (old : List (Sparse ℚ)) (p r : ℕ) where
  module _ (columns : List (Sparse ℚ)) (q : ℕ) (x y : Sparse ℚ) (lt : q < length columns) (read : x ≡ get_or columns q x) (kept : (k : ℕ) → q ≤ k → column_in columns k ≡ column_in old k)
      (cleared : y ≡ cond (eqb q p) x (without_row x r)) where
    is_old : x ≡ column_in old q
    is_old = read ∙ get_or_default columns q x (record { length = 0; pairs = [] }) lt ∙ kept q (omega arith)

    pub clears_next : column_in (set columns q y) q ≡ cleared_column old p r q
    clears_next =
        get_or-set_same columns q y (record { length = 0; pairs = [] }) lt ∙ cleared ∙ ap (λ (c : Sparse ℚ). cond (eqb q p) c (without_row c r)) is_old

    pub cleared_more : ((k : ℕ) → k < q → column_in columns k ≡ cleared_column old p r k) → (k : ℕ) → k < q + 1 → column_in (set columns q y) k ≡ cleared_column old p r k
    cleared_more before k below =
        ⊎_elim
        (λ (e : k ≡ q). subst (λ j. column_in (set columns q y) j ≡ cleared_column old p r j) (sym e) clears_next)
        (λ ne. get_or-set_other columns q k y (record { length = 0; pairs = [] }) ne ∙ before k (omega (arith, ne)))
        (cases_eq k q)

    pub kept_more : (k : ℕ) → q + 1 ≤ k → column_in (set columns q y) k ≡ column_in old k
    kept_more k le = get_or-set_other columns q k y (record { length = 0; pairs = [] }) (λ e. omega arith) ∙ kept k (omega arith)

  pub all_cleared : (columns : List (Sparse ℚ)) (q : ℕ) → length columns ≡ length old → length old ≤ q → ((k : ℕ) → k < q → column_in columns k ≡ cleared_column old p r k)
      → columns ≡ cleared_columns old p r
  all_cleared columns q e le each =
      ext_get_or (record { length = 0; pairs = [] }) columns (cleared_columns old p r) (e ∙ sym (length-map-upto (cleared_column old p r) (length old)))
      (λ k lt. each k (omega (arith, lt, e)) ∙ sym (get-map-upto (cleared_column old p r) (record { length = 0; pairs = [] }) (length old) k (omega (arith, lt, e))))
