-- A row's links by column.
use Rattle.std.proofs.Common.{◌≡◌, ◌≢◌, ℕ, ◌<◌, ◌≤◌, List, length, set, replicate, Option, Some, None, sym, ap, subst, ◌∙◌, ⊎_elim, arith}
use Rattle.std.proofs.lemmas.Bool.{cases_eq, cases_lt}
use Rattle.std.proofs.lemmas.List.{get_or-set_same, get_or-set_other, get_or-replicate, get_or_past, length-replicate}
use Rattle.sparse_cols.specs.Work.{value_in}
use Rattle.cross_links.specs.Matrix.{Matrix, IsLink, IsMatrix, row_of, col_of}

abbrev pub IsMet : Matrix → List (Option ℕ) → ℕ → Type 0
IsMet a index k = value_in index (col_of a k) ≡ Some k

abbrev pub AreOnly : Matrix → ℕ → List (Option ℕ) → Type 0
AreOnly a i index = (p k : ℕ) → value_in index p ≡ Some k → IsLink a k × (row_of a k ≡ i) × (col_of a k ≡ p)

pub only-none : (a : Matrix) (i n : ℕ) (index : List (Option ℕ)) → index ≡ replicate n None → AreOnly a i index
only-none a i n index none p k is =
    let e : value_in index p ≡ None = ap (λ (xs : List (Option ℕ)). value_in xs p) none ∙ ⊎_elim
    (λ (lt : p < n). get_or-replicate {A = Option ℕ} n p None None lt)
    (λ (le : n ≤ p). get_or_past (replicate n None) p None (omega (arith, length-replicate {A = Option ℕ} n None)))
    (cases_lt p n) in
    absurd cc

module _ (a : Matrix) (h : IsMatrix a) (i l p : ℕ) (link : IsLink a l) (in_row : row_of a l ≡ i) (in_col : col_of a l ≡ p) (index index' : List (Option ℕ)) (lt : p < length index) (is : index' ≡ set index p (Some l)) where
  here : value_in index' p ≡ Some l
  here = ap (λ (xs : List (Option ℕ)). value_in xs p) is ∙ get_or-set_same index p (Some l) None lt

  there : (q : ℕ) → q ≢ p → value_in index' q ≡ value_in index q
  there q ne = ap (λ (xs : List (Option ℕ)). value_in xs q) is ∙ get_or-set_other index p q (Some l) None ne

  pub met-now : IsMet a index' l
  met-now = ap (value_in index') in_col ∙ here

  pub met-more : AreOnly a i index → (k : ℕ) → IsMet a index k → IsMet a index' k
  met-more only k met =
      ⊎_elim
      (λ (e : col_of a k ≡ p).
      let known = only (col_of a k) k met in
      let same : k ≡ l = h.apart k l known.0 link (known.1 ∙ sym in_row) (e ∙ sym in_col) in
      subst (IsMet a index') (sym same) met-now)
      (λ (ne : col_of a k ≢ p). there (col_of a k) ne ∙ met)
      (cases_eq (col_of a k) p)

  pub only-more : AreOnly a i index → AreOnly a i index'
  only-more only q k at =
      ⊎_elim
      (λ (e : q ≡ p).
      let some : Some l ≡ Some k = sym (ap (value_in index') e ∙ here) ∙ at in
      let same : l ≡ k = cc in
      (subst (IsLink a) same link, ap (row_of a) (sym same) ∙ in_row, ap (col_of a) (sym same) ∙ in_col ∙ sym e))
      (λ (ne : q ≢ p). only q k (sym (there q ne) ∙ at))
      (cases_eq q p)
