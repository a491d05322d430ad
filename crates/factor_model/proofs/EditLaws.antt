-- A form stays a triangular form where a row is cleared, and where a column is replaced.
use Rattle.std.proofs.Common.{◌≡◌, ◌≢◌, ℕ, ◌+◌, ◌<◌, ◌≤◌, true, false, not, eqb, List, [], ◌∷◌, ◌++◌, length, map, inl, inr, ⊎_elim, refl, sym, ◌∙◌, ap, subst, arith}
use Rattle.std.specs.List.{range_with_len}
use Rattle.std.specs.List.Sorted.{IsPermutation}
use Rattle.std.proofs.lemmas.Bool.{cases_eq, cases_lt, eq-eqb, ne_eqb, cond-true, cond-false}
use Rattle.std.proofs.lemmas.List.{length-set, get_or-set_same, get_or-set_other, get_or_past}
use Rattle.std.proofs.lemmas.List.Sorted.{IsPermutation-trans, IsPermutation-sym, IsPermutation-map, IsPermutation-cons, IsPermutation-to_front}
use Rattle.rational.specs.Rational.{ℚ, zero_ℚ}
use Rattle.rational.proofs.VectorLaws.{get-map-upto, length-map-upto}
use Rattle.sparse_cols.specs.Sparse.{Sparse, IsRising, remove_row, without_row}
use Rattle.sparse_cols.proofs.Pairs.{IsRising-remove_row}
use Rattle.factor_model.specs.Vectors.{entry}
use Rattle.factor_model.specs.Upper.{Triangle, IsUpper, ComesBefore, In, Pairwise, column, row_of, cell, diagonal}
use Rattle.factor_model.specs.Edits.{column_at, cleared_column, clear_row, StandsAlone, moved_to_end, replace_column}
use Rattle.factor_model.specs.Factoring.{others}
use Rattle.factor_model.proofs.LineLaws.{entry-here, entry-there, entry-below}
use Rattle.factor_model.proofs.Orders.{Pairwise-append}
use Rattle.factor_model.proofs.UpperShape.{order_below, in_order}

-- ---- the entries that are left where a row is taken out

pub entry-removed : (n from : ℕ) (pairs : List (ℕ × ℚ)) (i : ℕ) → IsRising n from pairs → entry (remove_row i pairs) i ≡ zero_ℚ
entry-removed n from [] i rising = refl
entry-removed n from (p ∷ pairs) i rising =
    ⊎_elim
    (λ (e : p.0 ≡ i).
    ap (λ ps. entry ps i) (cond-true (eqb p.0 i) pairs (p ∷ remove_row i pairs) (eq-eqb p.0 i e))
    ∙ entry-below n (p.0 + 1) pairs i rising.2 (omega arith))
    (λ (ne : p.0 ≢ i).
    ap (λ ps. entry ps i) (cond-false (eqb p.0 i) pairs (p ∷ remove_row i pairs) (ne_eqb p.0 i ne))
    ∙ entry-there p.0 i p.1 (remove_row i pairs) (λ e. ne (sym e)) ∙ entry-removed n (p.0 + 1) pairs i rising.2)
    (cases_eq p.0 i)

pub entry-kept : (pairs : List (ℕ × ℚ)) (i j : ℕ) → j ≢ i → entry (remove_row i pairs) j ≡ entry pairs j
entry-kept [] i j other = refl
entry-kept (p ∷ pairs) i j other =
    ⊎_elim
    (λ (e : p.0 ≡ i).
    ap (λ ps. entry ps j) (cond-true (eqb p.0 i) pairs (p ∷ remove_row i pairs) (eq-eqb p.0 i e))
    ∙ sym (entry-there p.0 j p.1 pairs (λ h. other (h ∙ e))))
    (λ (ne : p.0 ≢ i).
    ap (λ ps. entry ps j) (cond-false (eqb p.0 i) pairs (p ∷ remove_row i pairs) (ne_eqb p.0 i ne))
    ∙ ⊎_elim
    (λ (h : j ≡ p.0).
    subst (λ k. entry (p ∷ remove_row i pairs) k ≡ entry (p ∷ pairs) k) (sym h) (entry-here p.0 p.1 (remove_row i pairs) ∙ sym (entry-here p.0 p.1 pairs)))
    (λ (h : j ≢ p.0). entry-there p.0 j p.1 (remove_row i pairs) h ∙ entry-kept pairs i j other ∙ sym (entry-there p.0 j p.1 pairs h))
    (cases_eq j p.0))
    (cases_eq p.0 i)

-- ---- pairs of positions

pub Pairwise-map : (R S : ℕ → ℕ → Type 0) (xs : List ℕ) → ((x y : ℕ) → In x xs → In y xs → R x y → S x y) → Pairwise R xs → Pairwise S xs
Pairwise-map R S [] h p = tt
Pairwise-map R S (x ∷ xs) h p = (λ y held. h x y (inl refl) (inr held) (p.0 y held), Pairwise-map R S xs (λ a b i j. h a b (inr i) (inr j)) p.1)

kept-out : (x p : ℕ) → x ≡ p → not (eqb x p) ≡ false
kept-out x p e = ap not (eq-eqb x p e)

kept-in : (x p : ℕ) → x ≢ p → not (eqb x p) ≡ true
kept-in x p ne = ap not (ne_eqb x p ne)

others-same : (p x : ℕ) (xs : List ℕ) → x ≡ p → others p (x ∷ xs) ≡ others p xs
others-same p x xs e = cond-false (not (eqb x p)) _ _ (kept-out x p e)

others-other : (p x : ℕ) (xs : List ℕ) → x ≢ p → others p (x ∷ xs) ≡ x ∷ others p xs
others-other p x xs ne = cond-true (not (eqb x p)) _ _ (kept-in x p ne)

pub in_others : (p y : ℕ) (xs : List ℕ) → In y (others p xs) → In y xs × (y ≢ p)
in_others p y [] held = absurd held
in_others p y (x ∷ xs) held =
    ⊎_elim
    (λ (e : x ≡ p). let there = in_others p y xs (subst (In y) (others-same p x xs e) held) in (inr there.0, there.1))
    (λ (ne : x ≢ p).
    ⊎_elim
    (λ (here : y ≡ x). (inl here, λ e. ne (sym here ∙ e)))
    (λ (later : In y (others p xs)). let there = in_others p y xs later in (inr there.0, there.1))
    (subst (In y) (others-other p x xs ne) held))
    (cases_eq x p)

pub others_in : (p y : ℕ) (xs : List ℕ) → In y xs → y ≢ p → In y (others p xs)
others_in p y [] held ne = absurd held
others_in p y (x ∷ xs) held ne =
    ⊎_elim
    (λ (e : x ≡ p).
    subst (In y) (sym (others-same p x xs e)) (⊎_elim (λ (here : y ≡ x). absurd (ne (here ∙ e))) (λ (later : In y xs). others_in p y xs later ne) held))
    (λ (other : x ≢ p).
    subst (In y) (sym (others-other p x xs other)) (⊎_elim (λ (here : y ≡ x). inl here) (λ (later : In y xs). inr (others_in p y xs later ne)) held))
    (cases_eq x p)

pub Pairwise-others : (R : ℕ → ℕ → Type 0) (p : ℕ) (xs : List ℕ) → Pairwise R xs → Pairwise R (others p xs)
Pairwise-others R p [] h = tt
Pairwise-others R p (x ∷ xs) h =
    ⊎_elim
    (λ (e : x ≡ p). subst (Pairwise R) (sym (others-same p x xs e)) (Pairwise-others R p xs h.1))
    (λ (ne : x ≢ p). subst (Pairwise R) (sym (others-other p x xs ne)) (λ y held. h.0 y (in_others p y xs held).0, Pairwise-others R p xs h.1))
    (cases_eq x p)

others-none : (p : ℕ) (xs : List ℕ) → ((y : ℕ) → In y xs → y ≢ p) → others p xs ≡ xs
others-none p [] none = refl
others-none p (x ∷ xs) none = others-other p x xs (none x (inl refl)) ∙ ap (λ ys. x ∷ ys) (others-none p xs (λ y held. none y (inr held)))

pub moved-permutes : (p : ℕ) (xs : List ℕ) → In p xs → Pairwise (λ x y. x ≢ y) xs → IsPermutation xs (others p xs ++ p ∷ [])
moved-permutes p [] held apart = absurd held
moved-permutes p (x ∷ xs) held apart =
    ⊎_elim
    (λ (e : x ≡ p).
    let left : others p (x ∷ xs) ≡ xs = others-same p x xs e ∙ others-none p xs (λ y later h. apart.0 y later (e ∙ sym h)) in
    subst (λ ys. IsPermutation (x ∷ xs) (ys ++ p ∷ [])) (sym left)
    (subst (λ y. IsPermutation (y ∷ xs) (xs ++ p ∷ [])) (sym e) (IsPermutation-sym (xs ++ p ∷ []) (p ∷ xs) (IsPermutation-to_front xs p))))
    (λ (ne : x ≢ p).
    let later : In p xs = ⊎_elim (λ (e : p ≡ x). absurd (ne (sym e))) (λ (h : In p xs). h) held in
    subst (λ ys. IsPermutation (x ∷ xs) (ys ++ p ∷ [])) (sym (others-other p x xs ne))
    (IsPermutation-cons x xs (others p xs ++ p ∷ []) (moved-permutes p xs later apart.1)))
    (cases_eq x p)

-- ---- a row is cleared

past : (u : Triangle) (q : ℕ) → length u.columns ≤ q → column_at u q ≡ record { length = 0; pairs = [] }
past u q le = get_or_past u.columns q (record { length = 0; pairs = [] }) le

module _ (n : ℕ) (u : Triangle) (upper : IsUpper n u) (p : ℕ) where
  cleared_at : (q : ℕ) → q < n → column_at (clear_row u p) q ≡ cleared_column u.columns p (row_of u p) q
  cleared_at q lt = get-map-upto (cleared_column u.columns p (row_of u p)) (record { length = 0; pairs = [] }) (length u.columns) q (omega (arith, upper.column_count))

  pub cleared-own : (q : ℕ) → q < n → q ≡ p → column_at (clear_row u p) q ≡ column_at u q
  cleared-own q lt e = cleared_at q lt ∙ cond-true (eqb q p) _ _ (eq-eqb q p e)

  pub cleared-other : (q : ℕ) → q < n → q ≢ p → column (clear_row u p) q ≡ remove_row (row_of u p) (column u q)
  cleared-other q lt ne = ap (λ (c : Sparse ℚ). c.pairs) (cleared_at q lt ∙ cond-false (eqb q p) (column_at u q) (without_row (column_at u q) (row_of u p)) (ne_eqb q p ne))

  -- another row has its cells, and so has p's column; p's row has none in another column
  pub cell-cleared_own : (i q : ℕ) → q < n → q ≡ p → cell (clear_row u p) i q ≡ cell u i q
  cell-cleared_own i q lt e = ap (λ (c : Sparse ℚ). entry c.pairs i) (cleared-own q lt e)

  pub cell-cleared_row : (q : ℕ) → q < n → q ≢ p → cell (clear_row u p) (row_of u p) q ≡ zero_ℚ
  cell-cleared_row q lt ne = ap (λ ps. entry ps (row_of u p)) (cleared-other q lt ne) ∙ entry-removed n 0 (column u q) (row_of u p) (upper.rising q)

  pub cell-cleared_kept : (i q : ℕ) → q < n → i ≢ row_of u p → cell (clear_row u p) i q ≡ cell u i q
  cell-cleared_kept i q lt other =
      ⊎_elim (λ (e : q ≡ p). cell-cleared_own i q lt e)
      (λ (ne : q ≢ p). ap (λ ps. entry ps i) (cleared-other q lt ne) ∙ entry-kept (column u q) (row_of u p) i other)
      (cases_eq q p)

  no_entry_left : (i q : ℕ) → q < n → cell u i q ≡ zero_ℚ → cell (clear_row u p) i q ≡ zero_ℚ
  no_entry_left i q lt none =
      ⊎_elim (λ (e : q ≡ p). cell-cleared_own i q lt e ∙ none)
      (λ (ne : q ≢ p).
      ⊎_elim (λ (e : i ≡ row_of u p). subst (λ k. cell (clear_row u p) k q ≡ zero_ℚ) (sym e) (cell-cleared_row q lt ne))
      (λ (other : i ≢ row_of u p). cell-cleared_kept i q lt other ∙ none)
      (cases_eq i (row_of u p)))
      (cases_eq q p)

  rising_left : (q : ℕ) → IsRising n 0 (column (clear_row u p) q)
  rising_left q =
      ⊎_elim
      (λ (lt : q < n).
      ⊎_elim (λ (e : q ≡ p). subst (λ (c : Sparse ℚ). IsRising n 0 c.pairs) (sym (cleared-own q lt e)) (upper.rising q))
      (λ (ne : q ≢ p). subst (IsRising n 0) (sym (cleared-other q lt ne)) (IsRising-remove_row n 0 (column u q) (row_of u p) (upper.rising q)))
      (cases_eq q p))
      (λ (le : n ≤ q).
      subst (λ (c : Sparse ℚ). IsRising n 0 c.pairs)
      (sym (past (clear_row u p) q (omega (arith, length-map-upto (cleared_column u.columns p (row_of u p)) (length u.columns), upper.column_count)))) tt)
      (cases_lt q n)

  pub rows_apart : (q s : ℕ) → q < n → s < n → q ≢ s → row_of u q ≢ row_of u s
  rows_apart q s lt lt' ne e = by_order u.order upper.triangular (in_order n u upper q lt) (in_order n u upper s lt')
    where
      by_order : (xs : List ℕ) → Pairwise (ComesBefore u) xs → In q xs → In s xs → ⊥
      by_order [] h a b = absurd a
      by_order (x ∷ xs) h (inl a) (inl b) = ne (a ∙ sym b)
      by_order (x ∷ xs) h (inl a) (inr b) = (subst (λ k. ComesBefore u k s) (sym a) (h.0 s b)).other_rows e
      by_order (x ∷ xs) h (inr a) (inl b) = (subst (λ k. ComesBefore u k q) (sym b) (h.0 q a)).other_rows (sym e)
      by_order (x ∷ xs) h (inr a) (inr b) = by_order xs h.1 a b

  pub cleared-upper : p < n → IsUpper n (clear_row u p)
  cleared-upper lt = record {
    column_count = length-map-upto (cleared_column u.columns p (row_of u p)) (length u.columns) ∙ upper.column_count;
    row_count = upper.row_count;
    rising = rising_left;
    whole = upper.whole;
    paired = upper.paired;
    triangular = Pairwise-map (ComesBefore u) (ComesBefore (clear_row u p)) u.order
        (λ q s held held' before. record {
          apart = before.apart;
          other_rows = before.other_rows;
          no_entry = no_entry_left (row_of u s) q (order_below n u upper q held) before.no_entry;
        })
        upper.triangular;
    nonzero = λ q below.
        ⊎_elim
        (λ (e : q ≡ p) none. upper.nonzero q below (sym (cell-cleared_own (row_of u q) q below e) ∙ none))
        (λ (ne : q ≢ p) none. upper.nonzero q below (sym (cell-cleared_kept (row_of u q) q below (rows_apart q p below lt ne)) ∙ none))
        (cases_eq q p);
  }

-- ---- a column is replaced

module _ (n : ℕ) (u : Triangle) (upper : IsUpper n u) (p : ℕ) (lt : p < n) (c : Sparse ℚ) where
  pub replaced-own : column_at (replace_column u p c) p ≡ c
  replaced-own = get_or-set_same u.columns p c (record { length = 0; pairs = [] }) (omega (arith, upper.column_count))

  pub replaced-other : (q : ℕ) → q ≢ p → column_at (replace_column u p c) q ≡ column_at u q
  replaced-other q ne = get_or-set_other u.columns p q c (record { length = 0; pairs = [] }) ne

  pub cell-replaced_own : (i : ℕ) → cell (replace_column u p c) i p ≡ entry c.pairs i
  cell-replaced_own i = ap (λ (d : Sparse ℚ). entry d.pairs i) replaced-own

  pub cell-replaced_other : (i q : ℕ) → q ≢ p → cell (replace_column u p c) i q ≡ cell u i q
  cell-replaced_other i q ne = ap (λ (d : Sparse ℚ). entry d.pairs i) (replaced-other q ne)

  order_moves : IsPermutation u.order (moved_to_end u.order p)
  order_moves = moved-permutes p u.order (in_order n u upper p lt) (Pairwise-map (ComesBefore u) (λ x y. x ≢ y) u.order (λ x y held held' before. before.apart) upper.triangular)

  module _ (alone : StandsAlone u p) where
    stands : (q : ℕ) → In q u.order → q ≢ p → cell u (row_of u p) q ≡ zero_ℚ
    stands q held ne = alone q (omega (arith, order_below n u upper q held, upper.row_count)) ne

    pub replaced-upper : IsRising n 0 c.pairs → entry c.pairs (row_of u p) ≢ zero_ℚ → IsUpper n (replace_column u p c)
    replaced-upper rising nonzero = record {
      column_count = length-set u.columns p c ∙ upper.column_count;
      row_count = upper.row_count;
      rising = λ q.
          ⊎_elim (λ (e : q ≡ p). subst (λ k. IsRising n 0 (column (replace_column u p c) k)) (sym e) (subst (λ (d : Sparse ℚ). IsRising n 0 d.pairs) (sym replaced-own) rising))
          (λ (ne : q ≢ p). subst (λ (d : Sparse ℚ). IsRising n 0 d.pairs) (sym (replaced-other q ne)) (upper.rising q))
          (cases_eq q p);
      whole = IsPermutation-trans (range_with_len 0 n) u.order (moved_to_end u.order p) upper.whole order_moves;
      paired = IsPermutation-trans (range_with_len 0 n) (map (row_of u) u.order) (map (row_of u) (moved_to_end u.order p)) upper.paired
          (IsPermutation-map (row_of u) u.order (moved_to_end u.order p) order_moves);
      triangular =
          Pairwise-append (ComesBefore (replace_column u p c)) (others p u.order) (p ∷ [])
          (Pairwise-map (ComesBefore u) (ComesBefore (replace_column u p c)) (others p u.order)
          (λ q s held held' before. record {
            apart = before.apart;
            other_rows = before.other_rows;
            no_entry = cell-replaced_other (row_of u s) q (in_others p q u.order held).1 ∙ before.no_entry;
          })
          (Pairwise-others (ComesBefore u) p u.order upper.triangular))
          ((λ y held. absurd held), tt)
          (λ q s held one.
          let there = in_others p q u.order held in
          let below = order_below n u upper q there.0 in
          ⊎_elim
          (λ (e : s ≡ p). subst (ComesBefore (replace_column u p c) q) (sym e) (record {
            apart = there.1;
            other_rows = rows_apart n u upper q q p below lt there.1;
            no_entry = cell-replaced_other (row_of u p) q there.1 ∙ stands q there.0 there.1;
          }))
          (λ (no : ⊥). absurd no) one);
      nonzero = λ q below.
          ⊎_elim
          (λ (e : q ≡ p). subst (λ k. diagonal (replace_column u p c) k ≢ zero_ℚ) (sym e) (λ none. nonzero (sym (cell-replaced_own (row_of u p)) ∙ none)))
          (λ (ne : q ≢ p) none. upper.nonzero q below (sym (cell-replaced_other (row_of u q) q ne) ∙ none))
          (cases_eq q p);
    }

-- where p's row is cleared it has no entry in another column
pub cleared-alone : (n : ℕ) (u : Triangle) → IsUpper n u → (p : ℕ) → StandsAlone (clear_row u p) p
cleared-alone n u upper p q lt ne = cell-cleared_row n u upper p q (omega (arith, lt, upper.row_count)) ne
