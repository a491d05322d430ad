-- The entries of the active part are those of the elimination, and so are the counts.
use Rattle.std.proofs.Common.{◌≡◌, ◌≢◌, ℕ, ◌<◌, Bool, true, false, cond, eqb, List, [], ◌∷◌, length, inl, inr, refl, sym, ap, subst, ◌∙◌, arith}
use Rattle.std.specs.List.{Contains, IsDistinct, filter}
use Rattle.std.proofs.lemmas.Bool.{cond-true}
use Rattle.std.proofs.lemmas.List.Sums.{length-filter}
use Rattle.rational.specs.Rational.{zero_ℚ}
use Rattle.factor_model.specs.Upper.{In, Pairwise}
use Rattle.factor_model.specs.Factoring.{Elimination, is_entry, row_count, column_count, cost}
use Rattle.factor_model.proofs.Orders.{contains_in, in_contains}
use Rattle.factor_model.proofs.UpperShape.{distinct_of}
use Rattle.factor_model.proofs.FactorStands.{entry-none, entry-some}
use Rattle.cross_links.specs.Matrix.{Matrix, IsLink, Has, row, col, row_in, col_in, row_of, col_of, cost_of}
use Rattle.cross_links.proofs.Cells.{has_from_cell, cell_from_has, count_row, count_col}
use Rattle.cross_links.proofs.Entries.{side_active}
use Rattle.markowitz_lu.specs.Inner.Active.{IsActivePart}

-- ---- what a filter keeps

pub in_filter : (f : ℕ → Bool) (xs : List ℕ) (y : ℕ) → In y (filter f xs) → In y xs × (f y ≡ true)
in_filter f [] y held = absurd held
in_filter f (x ∷ xs) y held = by_test (λ h. in_filter f xs y h) (f x) refl held
  where
    by_test : (In y (filter f xs) → In y xs × (f y ≡ true)) → (t : Bool) → f x ≡ t → In y (cond t (x ∷ filter f xs) (filter f xs)) → In y (x ∷ xs) × (f y ≡ true)
    by_test later true e (inl here) = (inl here, ap f here ∙ e)
    by_test later true e (inr h) = let there = later h in (inr there.0, there.1)
    by_test later false e h = let there = later h in (inr there.0, there.1)

pub filter_in : (f : ℕ → Bool) (xs : List ℕ) (y : ℕ) → In y xs → f y ≡ true → In y (filter f xs)
filter_in f [] y held is = absurd held
filter_in f (x ∷ xs) y (inl here) is = subst (In y) (sym (cond-true (f x) (x ∷ filter f xs) (filter f xs) (ap f (sym here) ∙ is))) (inl here)
filter_in f (x ∷ xs) y (inr later) is = by_test (f x) (filter_in f xs y later is)
  where
    by_test : (t : Bool) → In y (filter f xs) → In y (cond t (x ∷ filter f xs) (filter f xs))
    by_test true h = inr h
    by_test false h = h

pub Pairwise-filter : (R : ℕ → ℕ → Type 0) (f : ℕ → Bool) (xs : List ℕ) → Pairwise R xs → Pairwise R (filter f xs)
Pairwise-filter R f [] p = tt
Pairwise-filter R f (x ∷ xs) p = by_test (f x) (Pairwise-filter R f xs p.1)
  where
    by_test : (t : Bool) → Pairwise R (filter f xs) → Pairwise R (cond t (x ∷ filter f xs) (filter f xs))
    by_test true h = (λ y held. p.0 y (in_filter f xs y held).0, h)
    by_test false h = h

rising_distinct : (xs : List ℕ) → Pairwise ◌<◌ xs → IsDistinct eqb xs
rising_distinct xs rise = distinct_of ◌<◌ (λ p q lt e. omega arith) xs rise

module _ (e : Elimination) (a : Matrix) (part : IsActivePart e a) where
  pub link_row : (l : ℕ) → IsLink a l → In (row_of a l) e.rows
  link_row l link = part.row_left (row_of a l) (side_active a.size a.entries row_in a.rows a.active_rows part.matrix.rows l link)

  pub link_col : (l : ℕ) → IsLink a l → In (col_of a l) e.positions
  link_col l link = part.col_left (col_of a l) (side_active a.size a.entries col_in a.cols a.active_cols part.matrix.cols l link)

  pub has_active : (i p : ℕ) → Has a i p → In i e.rows × In p e.positions × (e.matrix i p ≢ zero_ℚ)
  has_active i p has =
      let in_rows : In i e.rows = subst (λ (r : ℕ). In r e.rows) has.2 (link_row has.0 has.1) in
      let in_positions : In p e.positions = subst (λ (c : ℕ). In c e.positions) has.3 (link_col has.0 has.1) in
      (in_rows, in_positions, λ none. cell_from_has a part.matrix part.no_zero i p has (part.cells i p in_rows in_positions ∙ none))

  pub active_has : (i p : ℕ) → In i e.rows → In p e.positions → e.matrix i p ≢ zero_ℚ → Has a i p
  active_has i p in_rows in_positions some = has_from_cell a part.matrix i p (λ none. some (sym (part.cells i p in_rows in_positions) ∙ none))

  tested : (r p : ℕ) → is_entry e r p ≡ true → e.matrix r p ≢ zero_ℚ
  tested r p is none = let no_entry = entry-none e r p none in absurd cc

  module _ (rows_rise : Pairwise ◌<◌ e.rows) (positions_rise : Pairwise ◌<◌ e.positions) where
    row_count-is : (r : ℕ) → In r e.rows → length (row a r) ≡ row_count e r
    row_count-is r held =
        let f : ℕ → Bool = λ p. is_entry e r p in
        let ps = filter f e.positions in
        count_row a part.matrix r ps (rising_distinct ps (Pairwise-filter ◌<◌ f e.positions positions_rise)) (λ p. (
          λ (inside : Contains ps p). let there = in_filter f e.positions p (in_contains p ps inside) in active_has r p held there.0 (tested r p there.1),
          λ (has : Has a r p). let there = has_active r p has in contains_in p ps (filter_in f e.positions p there.1 (entry-some e r p there.2)),
        ))
        ∙ length-filter f e.positions

    column_count-is : (c : ℕ) → In c e.positions → length (col a c) ≡ column_count e c
    column_count-is c held =
        let f : ℕ → Bool = λ r. is_entry e r c in
        let is = filter f e.rows in
        count_col a part.matrix c is (rising_distinct is (Pairwise-filter ◌<◌ f e.rows rows_rise)) (λ i. (
          λ (inside : Contains is i). let there = in_filter f e.rows i (in_contains i is inside) in active_has i c there.0 held (tested i c there.1),
          λ (has : Has a i c). let there = has_active i c has in contains_in i is (filter_in f e.rows i there.0 (entry-some e i c there.2)),
        ))
        ∙ length-filter f e.rows

    pub cost-is : (l : ℕ) → IsLink a l → cost_of a l ≡ cost e (row_of a l, col_of a l)
    cost-is l link =
        let by_row = row_count-is (row_of a l) (link_row l link) in
        let by_col = column_count-is (col_of a l) (link_col l link) in
        cc
