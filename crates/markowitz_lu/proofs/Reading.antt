-- What is read of a pivot's row and column.
use Rattle.std.proofs.Common.{◌≡◌, ◌≢◌, ℕ, ◌<◌, List, [], ◌∷◌, map, eqb, Option, Some, None, unwrap_or, ⊎_elim, refl, sym, ap, ap₂, subst, ◌∙◌}
use Rattle.std.specs.List.{Contains, IsDistinct}
use Rattle.std.proofs.lemmas.Bool.{cases_eq, cond-true, cond-false, eq-eqb, ne_eqb}
use Rattle.std.proofs.lemmas.Map.Keys.{IsDistinct-head, IsDistinct-tail}
use Rattle.chain_links.proofs.Rest.{head_contains, tail_contains, head_other}
use Rattle.rational.specs.Rational.{ℚ, zero_ℚ}
use Rattle.sparse_cols.specs.Sparse.{value_at}
use Rattle.factor_model.specs.Vectors.{entry, or_zero}
use Rattle.factor_model.specs.Upper.{In}
use Rattle.factor_model.specs.Update.{AreApart, Lacks}
use Rattle.factor_model.specs.Factoring.{Elimination, others}
use Rattle.factor_model.proofs.EditLaws.{in_others, others_in}
use Rattle.cross_links.specs.Matrix.{Entry, Matrix, entry_at, row, col, row_in, col_in, row_of, col_of, IsLink, Has, IsMatrix, pair_in, col_pairs, without_entry, without_row, without_col}
use Rattle.cross_links.specs.Cells.{cell, HasNoZero}
use Rattle.cross_links.proofs.Entries.{some_entry, some_from, side_below}
use Rattle.cross_links.proofs.Cells.{value_at-held, has_cases, has_from_cell, cell_from_has, cell-is, cell-none, cell-cancelled, cell-cancelled_other, cell-row_removed_other, cell-col_removed_other, HasNoZero-without}
use Rattle.markowitz_lu.specs.Inner.Active.{IsActivePart}
use Rattle.markowitz_lu.specs.Inner.Lines.{place_in, row_pairs}
use Rattle.markowitz_lu.proofs.Actives.{has_active}
use Rattle.markowitz_lu.proofs.Pivots.{AreRead}

-- ---- pairs made of links

found_from : (f : ℕ → ℕ × ℚ) (ls : List ℕ) (p : ℕ) (x : ℚ) → value_at (map f ls) p ≡ Some x → (k : ℕ) × Contains ls k × ((f k).0 ≡ p) × ((f k).1 ≡ x)
found_from f [] p x is = absurd cc
found_from f (k ∷ ks) p x is =
    ⊎_elim
    (λ (e : (f k).0 ≡ p).
    let at : value_at (map f (k ∷ ks)) p ≡ Some (f k).1 = cond-true (eqb (f k).0 p) _ _ (eq-eqb (f k).0 p e) in
    let same : (f k).1 ≡ x = cc in
    (k, head_contains k ks, e, same))
    (λ (ne : (f k).0 ≢ p).
    let there = found_from f ks p x (sym (cond-false (eqb (f k).0 p) _ _ (ne_eqb (f k).0 p ne)) ∙ is) in
    (there.0, tail_contains k ks there.0 there.1, there.2, there.3))
    (cases_eq (f k).0 p)

lacks_mapped : (f : ℕ → ℕ × ℚ) (p : ℕ) (ls : List ℕ) → ((k : ℕ) → Contains ls k → (f k).0 ≢ p) → Lacks p (map f ls)
lacks_mapped f p [] other = tt
lacks_mapped f p (k ∷ ks) other = (other k (head_contains k ks), lacks_mapped f p ks (λ l held. other l (tail_contains k ks l held)))

apart_mapped : (f : ℕ → ℕ × ℚ) (n : ℕ) (ls : List ℕ) → IsDistinct eqb ls → ((k : ℕ) → Contains ls k → (f k).0 < n)
    → ((l k : ℕ) → Contains ls l → Contains ls k → (f l).0 ≡ (f k).0 → l ≡ k) → AreApart n (map f ls)
apart_mapped f n [] once below one = tt
apart_mapped f n (k ∷ ks) once below one = (
  below k (head_contains k ks),
  lacks_mapped f (f k).0 ks (λ l held e. head_other k l ks (IsDistinct-head eqb k ks once) held (one k l (head_contains k ks) (tail_contains k ks l held) (sym e))),
  apart_mapped f n ks (IsDistinct-tail eqb k ks once) (λ l held. below l (tail_contains k ks l held)) (λ l j in_l in_j. one l j (tail_contains k ks l in_l) (tail_contains k ks j in_j)),
)

module _ (m : Matrix) (h : IsMatrix m) where
  -- the value of a link is that of its place
  link_cell : (k i p : ℕ) → IsLink m k → row_of m k ≡ i → col_of m k ≡ p → (x : Entry) × (entry_at m k ≡ Some x) × (cell m i p ≡ x.2)
  link_cell k i p link in_row in_col =
      let some = some_entry (entry_at m k) link in
      (some.0, some.1, ap₂ (cell m) (sym in_row ∙ ap row_in some.1) (sym in_col ∙ ap col_in some.1) ∙ cell-is m h k some.0 some.1)

  module _ (r : ℕ) where
    place : ℕ → ℕ × ℚ
    place k = place_in (entry_at m k)

    place_key : (k : ℕ) → IsLink m k → (place_in (entry_at m k)).0 ≡ col_of m k
    place_key k link = let some = some_entry (entry_at m k) link in ap (λ (o : Option Entry). (place_in o).0) some.1 ∙ sym (ap col_in some.1)

    row_one : (l k : ℕ) → Contains (row m r) l → Contains (row m r) k → (place_in (entry_at m l)).0 ≡ (place_in (entry_at m k)).0 → l ≡ k
    row_one l k in_l in_k e =
        let left = h.rows.only r l in_l in
        let right = h.rows.only r k in_k in
        h.apart l k left.0 right.0 (left.1 ∙ sym right.1) (sym (place_key l left.0) ∙ e ∙ place_key k right.0)

    pub row_apart : AreApart m.size (row_pairs m r)
    row_apart =
        apart_mapped (λ k. place_in (entry_at m k)) m.size (row m r) (h.rows.once r)
        (λ k held. let link = (h.rows.only r k held).0 in subst (λ (s : ℕ). s < m.size) (sym (place_key k link)) (side_below m.size m.entries col_in m.cols m.active_cols h.cols k link))
        row_one

    pub row_has : (p : ℕ) (x : ℚ) → value_at (row_pairs m r) p ≡ Some x → Has m r p
    row_has p x is =
        let there = found_from (λ k. place_in (entry_at m k)) (row m r) p x is in
        let link = h.rows.only r there.0 there.1 in
        (there.0, link.0, link.1, sym (place_key there.0 link.0) ∙ there.2)

    pub row_entry : (p : ℕ) → entry (row_pairs m r) p ≡ cell m r p
    row_entry p =
        ⊎_elim
        (λ (has : Has m r p).
        let held : Contains (row m r) has.0 = subst (λ (i : ℕ). Contains (row m i) has.0) has.2 (h.rows.held has.0 has.1) in
        let at = link_cell has.0 r p has.1 has.2 has.3 in
        let found = value_at-held (λ k. place_in (entry_at m k)) (row m r) has.0 held (λ k in_k e. row_one k has.0 in_k held e) in
        ap (entry (row_pairs m r)) (sym (place_key has.0 has.1 ∙ has.3)) ∙ ap or_zero found ∙ ap (λ (o : Option Entry). (place_in o).1) at.1 ∙ sym at.2)
        (λ (absent : Has m r p → ⊥). by_case absent (value_at (row_pairs m r) p) refl ∙ sym (cell-none m h r p absent))
        (has_cases m h r p)
      where
        by_case : (Has m r p → ⊥) → (o : Option ℚ) → value_at (row_pairs m r) p ≡ o → entry (row_pairs m r) p ≡ zero_ℚ
        by_case absent None is = ap or_zero is
        by_case absent (Some x) is = absurd (absent (row_has p x is))

  module _ (c : ℕ) where
    pair_key : (k : ℕ) → IsLink m k → (pair_in (entry_at m k)).0 ≡ row_of m k
    pair_key k link = let some = some_entry (entry_at m k) link in ap (λ (o : Option Entry). (pair_in o).0) some.1 ∙ sym (ap row_in some.1)

    pub col_apart : AreApart m.size (col_pairs m c)
    col_apart =
        apart_mapped (λ k. pair_in (entry_at m k)) m.size (col m c) (h.cols.once c)
        (λ k held. let link = (h.cols.only c k held).0 in subst (λ (s : ℕ). s < m.size) (sym (pair_key k link)) (side_below m.size m.entries row_in m.rows m.active_rows h.rows k link))
        (λ l k in_l in_k e.
        let left = h.cols.only c l in_l in
        let right = h.cols.only c k in_k in
        h.apart l k left.0 right.0 (sym (pair_key l left.0) ∙ e ∙ pair_key k right.0) (left.1 ∙ sym right.1))

    pub col_has : (i : ℕ) (x : ℚ) → value_at (col_pairs m c) i ≡ Some x → Has m i c
    col_has i x is =
        let there = found_from (λ k. pair_in (entry_at m k)) (col m c) i x is in
        let link = h.cols.only c there.0 there.1 in
        (there.0, link.0, sym (pair_key there.0 link.0) ∙ there.2, link.1)

    pub col_found : (l : ℕ) (x : Entry) → entry_at m l ≡ Some x → x.1 ≡ c → value_at (col_pairs m c) x.0 ≡ Some x.2
    col_found l x is in_col =
        let link = some_from (entry_at m l) x is in
        let held : Contains (col m c) l = subst (λ (p : ℕ). Contains (col m p) l) (ap col_in is ∙ in_col) (h.cols.held l link) in
        let found = value_at-held (λ k. pair_in (entry_at m k)) (col m c) l held (λ k in_k e.
        let right = h.cols.only c k in_k in
        h.apart k l right.0 link (sym (pair_key k right.0) ∙ e ∙ pair_key l link) (right.1 ∙ sym (ap col_in is ∙ in_col))) in
        ap (value_at (col_pairs m c)) (sym (ap (λ (o : Option Entry). (pair_in o).0) is)) ∙ found ∙ ap (λ (o : Option Entry). Some (pair_in o).1) is

    pub col_entry : (i : ℕ) → entry (col_pairs m c) i ≡ cell m i c
    col_entry i = by_case (value_at (col_pairs m c) i)
      where
        by_case : (o : Option ℚ) → or_zero o ≡ unwrap_or o zero_ℚ
        by_case None = refl
        by_case (Some x) = refl

-- ---- the pivot at a link, which is taken out, and then its row and its column

module _ (n : ℕ) (e : Elimination) (a : Matrix) (part : IsActivePart e a) (size : a.size ≡ n) (l : ℕ) (x : Entry) (here : entry_at a l ≡ Some x)
    (b : Matrix) (hb : IsMatrix b) (is_b : b ≡ without_entry a l) (d : Matrix) (hd : IsMatrix d) (is_d : d ≡ without_row b x.0) (f : Matrix) (hf : IsMatrix f) (is_f : f ≡ without_col d x.1) where
  link : IsLink a l
  link = some_from (entry_at a l) x here

  place_has : Has a x.0 x.1
  place_has = (l, link, ap row_in here, ap col_in here)

  pub active : In x.0 e.rows × In x.1 e.positions × (e.matrix x.0 x.1 ≢ zero_ℚ)
  active = has_active e a part x.0 x.1 place_has

  pub value-is : x.2 ≡ e.matrix x.0 x.1
  value-is = sym (cell-is a part.matrix l x here) ∙ part.cells x.0 x.1 active.0 active.1

  pub no_zero-b : HasNoZero b
  no_zero-b = subst HasNoZero (sym is_b) (HasNoZero-without (l ∷ []) a part.no_zero)

  no_zero-d : HasNoZero d
  no_zero-d = subst HasNoZero (sym is_d) (HasNoZero-without (row b x.0) b no_zero-b)

  pub no_zero-f : HasNoZero f
  no_zero-f = subst HasNoZero (sym is_f) (HasNoZero-without (col d x.1) d no_zero-d)

  cell-b : (i p : ℕ) → ((i ≡ x.0) × (p ≡ x.1) → ⊥) → cell b i p ≡ cell a i p
  cell-b i p other = cell-cancelled_other a b part.matrix hb l x here is_b i p other

  -- what is left of it, in its row and in its column
  pub b_has : (i p : ℕ) → Has b i p → ((i ≡ x.0) × (p ≡ x.1) → ⊥) × Has a i p
  b_has i p has =
      let some = cell_from_has b hb no_zero-b i p has in
      let other : (i ≡ x.0) × (p ≡ x.1) → ⊥ = λ same. some (ap₂ (cell b) same.0 same.1 ∙ cell-cancelled a b part.matrix hb l x here is_b) in
      (other, has_from_cell a part.matrix i p (λ none. some (cell-b i p other ∙ none)))

  pub size-b : b.size ≡ n
  size-b = ap (λ (m : Matrix). m.size) is_b ∙ size

  pub row-apart : AreApart n (row_pairs b x.0)
  row-apart = subst (λ (s : ℕ). AreApart s (row_pairs b x.0)) size-b (row_apart b hb x.0)

  pub column-apart : AreApart n (col_pairs b x.1)
  column-apart = subst (λ (s : ℕ). AreApart s (col_pairs b x.1)) size-b (col_apart b hb x.1)

  pub row-in : (p : ℕ) (y : ℚ) → value_at (row_pairs b x.0) p ≡ Some y → In p (others x.1 e.positions)
  row-in p y is =
      let has = b_has x.0 p (row_has b hb x.0 p y is) in
      others_in x.1 p e.positions (has_active e a part x.0 p has.1).1 (λ same. has.0 (refl, same))

  pub column-in : (i : ℕ) (y : ℚ) → value_at (col_pairs b x.1) i ≡ Some y → In i (others x.0 e.rows)
  column-in i y is =
      let has = b_has i x.1 (col_has b hb x.1 i y is) in
      others_in x.0 i e.rows (has_active e a part i x.1 has.1).0 (λ same. has.0 (same, refl))

  pub are-read : AreRead n e x.0 x.1 (cell f) x.2 (row_pairs b x.0) (col_pairs b x.1)
  are-read = record {
    pivot = value-is;
    row_apart = row-apart;
    column_apart = column-apart;
    row_in = row-in;
    row_entry = λ p held.
        let there = in_others x.1 p e.positions held in
        row_entry b hb x.0 p ∙ cell-b x.0 p (λ same. there.1 same.1) ∙ part.cells x.0 p active.0 there.0;
    column_in = λ i y is. (
      column-in i y is,
      λ (none : y ≡ zero_ℚ). cell_from_has b hb no_zero-b i x.1 (col_has b hb x.1 i y is) (sym (col_entry b hb x.1 i) ∙ ap or_zero is ∙ none),
    );
    column_entry = λ i held.
        let there = in_others x.0 i e.rows held in
        col_entry b hb x.1 i ∙ cell-b i x.1 (λ same. there.1 same.0) ∙ part.cells i x.1 there.0 active.1;
    cells = λ i p held inside.
        let in_row = in_others x.0 i e.rows held in
        let in_position = in_others x.1 p e.positions inside in
        cell-col_removed_other d f hd hf x.1 is_f i p in_position.1
        ∙ cell-row_removed_other b d hb hd x.0 is_d i p in_row.1
        ∙ cell-b i p (λ same. in_row.1 same.0)
        ∙ part.cells i p in_row.0 in_position.0;
  }
