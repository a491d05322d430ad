-- The code at the beginning of an elimination.
use Rattle.std.proofs.Common.{◌≡◌, ◌≢◌, ℕ, zero, suc, ◌<◌, ◌≤◌, true, false, List, [], ◌∷◌, length, get_or, map, replicate, Some, ⊎_elim, refl, sym, ap, ap₂, subst, ◌∙◌, arith}
use Rattle.std.specs.List.{All, range_with_len}
use Rattle.std.proofs.lemmas.Bool.{cases_lt, cases_eq}
use Rattle.std.proofs.lemmas.List.{append-nil, get_or-replicate, length-replicate, get_or_past}
use Rattle.std.proofs.lemmas.List.FromFn.{fill_by_all}
use Rattle.std.proofs.lemmas.List.Sorted.{IsPermutation-refl}
use Rattle.rational.specs.Rational.{ℚ, zero_ℚ}
use Rattle.rational.specs.Sparse.{upto}
use Rattle.sparse_cols.specs.Sparse.{Sparse, value_at}
use Rattle.factor_model.specs.Vectors.{entry}
use Rattle.factor_model.specs.Upper.{In}
use Rattle.factor_model.specs.Edits.{column_in}
use Rattle.factor_model.specs.Factoring.{start, row_paired}
use Rattle.factor_model.proofs.Orders.{in_whole, whole_below}
use Rattle.cross_links.specs.Matrix.{IsMatrix, is_active, col_pairs}
use Rattle.markowitz_lu.specs.declared.stage.Stage.{Stage}
use Rattle.markowitz_lu.specs.Columns.{HasNoZero, matrix_of}
use Rattle.markowitz_lu.specs.Inner.Active.{IsActivePart}
use Rattle.markowitz_lu.specs.Inner.Kept.{IsKept, IsKeptColumn}
use Rattle.markowitz_lu.proofs.LinkOrder.{value-here, value-there}
use Rattle.markowitz_lu.proofs.Reading.{col_entry, col_found}

in_upto : (n i : ℕ) → i < n → In i (upto n)
in_upto n i lt = in_whole n (upto n) (IsPermutation-refl (range_with_len 0 n)) i lt

upto_below : (n i : ℕ) → In i (upto n) → i < n
upto_below n i held = whole_below n (upto n) (IsPermutation-refl (range_with_len 0 n)) i held

-- what is stored is one of the pairs
value_all : (P : ℕ × ℚ → Type 0) (ps : List (ℕ × ℚ)) (i : ℕ) (x : ℚ) → All P ps → value_at ps i ≡ Some x → P (i, x)
value_all P [] i x all is = absurd cc
value_all P ((k, u) ∷ ps) i x all is =
    ⊎_elim
    (λ (e : k ≡ i).
    let some : Some u ≡ Some x = sym (value-here k u ps) ∙ ap (value_at ((k, u) ∷ ps)) e ∙ is in
    let one : u ≡ x = cc in
    subst P (ap₂ (λ (j : ℕ) (y : ℚ). (j, y)) e one) (all zero (k, u) (omega arith)))
    (λ (ne : k ≢ i). value_all P ps i x (λ j d lt. all (suc j) d (omega arith)) (sym (value-there k i u ps ne) ∙ is))
    (cases_eq k i)

mapped_at : (columns : List (Sparse ℚ)) (p : ℕ) → get_or (map (λ (k : Sparse ℚ). k.pairs) columns) p [] ≡ (column_in columns p).pairs
mapped_at [] p = refl
mapped_at (k ∷ columns) zero = refl
mapped_at (k ∷ columns) (suc p) = mapped_at columns p

column_all : (P : Sparse ℚ → Type 0) (columns : List (Sparse ℚ)) (p : ℕ) → P (record { length = 0; pairs = [] }) → All P columns → P (column_in columns p)
column_all P columns p none all =
    ⊎_elim
    (λ (lt : p < length columns). all p (record { length = 0; pairs = [] }) lt)
    (λ (le : length columns ≤ p). subst P (sym (get_or_past columns p (record { length = 0; pairs = [] }) le)) none)
    (cases_lt p (length columns))

module _ (n : ℕ) (columns : List (Sparse ℚ)) (stored : All HasNoZero columns) (s : Stage) (size : s.cross.size ≡ n)
    (cols : (c : ℕ) → col_pairs s.cross c ≡ get_or (map (λ (k : Sparse ℚ). k.pairs) columns) c []) (rows_on : s.cross.active_rows ≡ replicate n true) (cols_on : s.cross.active_cols ≡ replicate n true)
    (matrix : IsMatrix s.cross) where
  all_on : (i : ℕ) → In i (upto n) → is_active (replicate n true) i ≡ true
  all_on i held = get_or-replicate n i true false (upto_below n i held)

  on_below : (i : ℕ) → is_active (replicate n true) i ≡ true → In i (upto n)
  on_below i on =
      ⊎_elim
      (λ (lt : i < n). in_upto n i lt)
      (λ (le : n ≤ i). let off : is_active (replicate n true) i ≡ false = get_or_past (replicate n true) i false (omega (arith, length-replicate n true, le)) in absurd cc)
      (cases_lt i n)

  read_column : (p : ℕ) → col_pairs s.cross p ≡ (column_in columns p).pairs
  read_column p = cols p ∙ mapped_at columns p

  part : IsActivePart (start n (matrix_of columns)) s.cross
  part = record {
    matrix = matrix;
    no_zero = λ l x is.
        value_all (λ pair. pair.1 ≢ zero_ℚ) (column_in columns x.1).pairs x.0 x.2
        (column_all HasNoZero columns x.1 (λ k d lt. absurd (omega arith)) stored)
        (ap (λ ps. value_at ps x.0) (sym (read_column x.1)) ∙ col_found s.cross matrix x.1 l x is refl);
    row_active = λ i held. ap (λ xs. is_active xs i) rows_on ∙ all_on i held;
    row_left = λ i on. on_below i (ap (λ xs. is_active xs i) (sym rows_on) ∙ on);
    col_active = λ p held. ap (λ xs. is_active xs p) cols_on ∙ all_on p held;
    col_left = λ p on. on_below p (ap (λ xs. is_active xs p) (sym cols_on) ∙ on);
    cells = λ i p held inside. sym (col_entry s.cross matrix p i) ∙ ap (λ ps. entry ps i) (read_column p);
  }

  pub begun : length s.columns.items ≡ n → ((p : ℕ) → p < n → column_in s.columns.items p ≡ record { length = n; pairs = [] }) → s.rows.items ≡ replicate n 0
      → s.order ≡ range_with_len 0 n → s.left.items ≡ replicate n true → s.etas ≡ [] → IsKept n (start n (matrix_of columns)) s
  begun count empty rows order left etas = record {
    size = size;
    part = part;
    count = count;
    columns = λ p lt. subst (IsKeptColumn n (start n (matrix_of columns)) p) (sym (empty p lt)) (record {
      length = refl;
      rising = tt;
      nonzero = λ i x is. absurd cc;
      open_rows = λ i held. refl;
      done_rows = λ i below away. absurd (away (in_upto n i below));
    });
    rows = rows ∙ fill_by_all (row_paired []) (replicate n 0) n 0 (length-replicate n 0) (λ k lt. get_or-replicate n k 0 0 lt);
    order = order ∙ sym (append-nil (upto n));
    left = left ∙ sym rows_on;
    etas = etas;
  }
