-- The code follows the elimination over one pivot.
use Rattle.std.proofs.Common.{◌≡◌, ◌≢◌, ℕ, zero, suc, ◌<◌, Bool, true, false, not, cond, eqb, List, [], ◌∷◌, ◌++◌, length, get_or, map, set, Option, Some, None, ◌⊎◌, inl, inr, ⊎_elim, refl, sym, ap, ap₂, subst, ◌∙◌, append_assoc, arith, get_or-set_same, get_or-set_other, length-set}
use Rattle.std.specs.List.{All, AllByRecursion}
use Rattle.std.proofs.lemmas.Bool.{cases_eq, cond-true, cond-false, eq-eqb, ne_eqb}
use Rattle.std.proofs.lemmas.List.{map-append}
use Rattle.std.proofs.lemmas.List.Elements.{filter-append}
use Rattle.std.proofs.lemmas.List.FromFn.{fill_by_all}
use Rattle.rational.specs.Rational.{ℚ, zero_ℚ}
use Rattle.rational.specs.Sparse.{upto}
use Rattle.rational.specs.Worked.{settle}
use Rattle.rational.proofs.VectorLaws.{get-map-upto, length-map-upto}
use Rattle.sparse_cols.specs.Sparse.{Sparse, value_at, insert_pair}
use Rattle.sparse_cols.proofs.Pairs.{IsRising-insert_pair}
use Rattle.order_chain.specs.Order.{order_with_last}
use Rattle.factor_model.specs.declared.Op.TheVariants.{Column}
use Rattle.factor_model.specs.Vectors.{entry, or_zero}
use Rattle.factor_model.specs.Upper.{In}
use Rattle.factor_model.specs.Update.{AreApart}
use Rattle.factor_model.specs.Edits.{column_in}
use Rattle.factor_model.specs.Factoring.{Elimination, others, row_paired, pivoted}
use Rattle.factor_model.proofs.EditLaws.{in_others, others_in}
use Rattle.factor_model.proofs.FactorReaches as reaches
use Rattle.factor_model.proofs.FactorReaches.{IsReached, IsDone, positions_done, in_or_out, row_left-below, position_cases}
use Rattle.cross_links.specs.Matrix.{Entry, Matrix, entry_at, IsMatrix, is_active, col_pairs, without_entry, without_row, without_col}
use Rattle.cross_links.specs.Cells.{cell, HasNoZero}
use Rattle.markowitz_lu.specs.declared.stage.Stage.{Stage}
use Rattle.markowitz_lu.specs.Inner.Active.{IsActivePart}
use Rattle.markowitz_lu.specs.Inner.Kept.{IsKept, IsKeptColumn, IsKeptPivot, stored_at}
use Rattle.markowitz_lu.specs.Inner.Lines.{row_pairs, less_lines}
use Rattle.markowitz_lu.specs.Inner.Links.{IsAlike}
use Rattle.markowitz_lu.proofs.LineSteps.{insert-same, insert-other}
use Rattle.markowitz_lu.proofs.LinkOrder.{value-here, value-there, value-lacks}
use Rattle.markowitz_lu.proofs.Pivots.{AreRead, pivot-cells, pivot-multipliers}
use Rattle.markowitz_lu.proofs.Reading.{active, are-read}

-- ---- lists

pub all_values : (P : ℕ → Type 0) (n : ℕ) (row : List (ℕ × ℚ)) → AreApart n row → ((p : ℕ) (u : ℚ) → value_at row p ≡ Some u → P p) → All (λ pair. P pair.0) row
all_values P n [] apart all k d lt = absurd (omega arith)
all_values P n ((p, u) ∷ row) apart all zero d lt = all p u (value-here p u row)
all_values P n ((p, u) ∷ row) apart all (suc k) d lt =
    all_values P n row apart.2 (λ q x is. all q x (value-there p q u row (λ e. (let none : value_at row q ≡ None = ap (value_at row) (sym e) ∙ value-lacks p row apart.1 in absurd cc)) ∙ is))
    k d (omega arith)

others-out : (x : ℕ) (xs : List ℕ) → ¬ In x xs → others x xs ≡ xs
others-out x [] away = refl
others-out x (y ∷ ys) away =
    cond-true (not (eqb y x)) (y ∷ others x ys) (others x ys) (ap not (ne_eqb y x (λ e. away (inl (sym e))))) ∙ ap (λ zs. y ∷ zs) (others-out x ys (λ held. away (inr held)))

not_done : (a : ℕ → ℕ → ℚ) (rows positions : List ℕ) (c : ℕ) (pivots : List (ℕ × ℕ)) → In c positions → AllByRecursion (IsDone a rows positions) pivots → ¬ In c (positions_done pivots)
not_done a rows positions c [] held all there = there
not_done a rows positions c (pivot ∷ pivots) held all there = ⊎_elim (all.0.position c held) (not_done a rows positions c pivots held all.1) there

-- ---- the row paired with a position

paired-new : (r c : ℕ) (pivots : List (ℕ × ℕ)) → ¬ In c (positions_done pivots) → row_paired (pivots ++ (r, c) ∷ []) c ≡ r
paired-new r c [] away = cond-true (eqb c c) r 0 (eq-eqb c c refl)
paired-new r c (pivot ∷ pivots) away =
    cond-false (eqb pivot.1 c) pivot.0 (row_paired (pivots ++ (r, c) ∷ []) c) (ne_eqb pivot.1 c (λ e. away (inl (sym e)))) ∙ paired-new r c pivots (λ held. away (inr held))

paired-old : (r c p : ℕ) (pivots : List (ℕ × ℕ)) → p ≢ c → row_paired (pivots ++ (r, c) ∷ []) p ≡ row_paired pivots p
paired-old r c p [] ne = cond-false (eqb c p) r 0 (ne_eqb c p (λ e. ne (sym e)))
paired-old r c p (pivot ∷ pivots) ne = ap (λ x. cond (eqb pivot.1 p) pivot.0 x) (paired-old r c p pivots ne)

rows-next : (n r c : ℕ) (pivots : List (ℕ × ℕ)) → c < n → ¬ In c (positions_done pivots) → set (map (row_paired pivots) (upto n)) c r ≡ map (row_paired (pivots ++ (r, c) ∷ [])) (upto n)
rows-next n r c pivots lt away =
    let rows = map (row_paired pivots) (upto n) in
    let len : length rows ≡ n = length-map-upto (row_paired pivots) n in
    fill_by_all (row_paired (pivots ++ (r, c) ∷ [])) (set rows c r) n 0 (length-set rows c r ∙ len) (λ k below. ⊎_elim
    (λ (e : k ≡ c).
    subst (λ (q : ℕ). get_or (set rows c r) q 0 ≡ row_paired (pivots ++ (r, c) ∷ []) q) (sym e)
    (get_or-set_same rows c r 0 (omega (arith, len, lt)) ∙ sym (paired-new r c pivots away)))
    (λ (ne : k ≢ c). get_or-set_other rows c k r 0 ne ∙ get-map-upto (row_paired pivots) 0 n k below ∙ sym (paired-old r c k pivots ne))
    (cases_eq k c))

order-next : (r c : ℕ) (positions : List ℕ) (pivots : List (ℕ × ℕ)) → ¬ In c (positions_done pivots)
    → order_with_last (positions ++ positions_done pivots) c ≡ others c positions ++ positions_done (pivots ++ (r, c) ∷ [])
order-next r c positions pivots away =
    ap (λ xs. xs ++ c ∷ []) (filter-append (λ y. not (eqb y c)) positions (positions_done pivots) ∙ ap (λ xs. others c positions ++ xs) (others-out c (positions_done pivots) away))
    ∙ append_assoc (others c positions) (positions_done pivots) (c ∷ [])
    ∙ ap (λ xs. others c positions ++ xs) (sym (map-append (λ (pivot : ℕ × ℕ). pivot.1) pivots ((r, c) ∷ [])))

-- ---- one column

module _ (n r : ℕ) (e next : Elimination) (p : ℕ) (column : Sparse ℚ) (kept : IsKeptColumn n e p column) (held : In r e.rows) (below : r < n)
    (fewer : (i : ℕ) → In i next.rows → In i e.rows × (i ≢ r)) (more : (i : ℕ) → In i e.rows → i ≢ r → In i next.rows)
    (same : (i : ℕ) → ¬ In i next.rows → next.matrix i p ≡ e.matrix i p) where
  new_row : (i : ℕ) → ¬ In i next.rows → (i ≡ r) ⊎ (¬ In i e.rows)
  new_row i away = ⊎_elim (λ (e : i ≡ r). inl e) (λ (ne : i ≢ r). inr (λ inside. away (more i inside ne))) (cases_eq i r)

  column-next : (o : Option ℚ) → or_zero o ≡ e.matrix r p → ((u : ℚ) → o ≡ Some u → u ≢ zero_ℚ) → IsKeptColumn n next p (stored_at r o column)
  column-next None is nonzero = record {
    length = kept.length;
    rising = kept.rising;
    nonzero = kept.nonzero;
    open_rows = λ i inside. kept.open_rows i (fewer i inside).0;
    done_rows = λ i lt away. ⊎_elim
        (λ (here : i ≡ r). ap or_zero (ap (value_at column.pairs) here ∙ kept.open_rows r held) ∙ is ∙ ap (λ (j : ℕ). e.matrix j p) (sym here) ∙ sym (same i away))
        (λ (out : ¬ In i e.rows). kept.done_rows i lt out ∙ sym (same i away))
        (new_row i away);
  }
  column-next (Some u) is nonzero = record {
    length = kept.length;
    rising = IsRising-insert_pair n 0 column.pairs r u kept.rising (omega arith) below (kept.open_rows r held);
    nonzero = λ i x at. ⊎_elim
        (λ (here : i ≡ r).
        let some : Some x ≡ Some u = sym at ∙ ap (value_at (insert_pair r u column.pairs)) here ∙ insert-same r u column.pairs (kept.open_rows r held) in
        let one : x ≡ u = cc in
        λ (none : x ≡ zero_ℚ). nonzero u refl (sym one ∙ none))
        (λ (ne : i ≢ r). kept.nonzero i x (sym (insert-other r i u column.pairs (λ e. ne (sym e))) ∙ at))
        (cases_eq i r);
    open_rows = λ i inside. let there = fewer i inside in insert-other r i u column.pairs (λ e. there.1 (sym e)) ∙ kept.open_rows i there.0;
    done_rows = λ i lt away. ⊎_elim
        (λ (here : i ≡ r).
        ap or_zero (ap (value_at (insert_pair r u column.pairs)) here ∙ insert-same r u column.pairs (kept.open_rows r held)) ∙ is
        ∙ ap (λ (j : ℕ). e.matrix j p) (sym here) ∙ sym (same i away))
        (λ (ne : i ≢ r).
        ap or_zero (insert-other r i u column.pairs (λ e. ne (sym e)))
        ∙ ⊎_elim (λ (here : i ≡ r). absurd (ne here)) (λ (out : ¬ In i e.rows). kept.done_rows i lt out ∙ sym (same i away)) (new_row i away))
        (cases_eq i r);
  }

-- ---- the whole

module _ (n : ℕ) (m0 : ℕ → ℕ → ℚ) (e : Elimination) (reached : IsReached n m0 e) (s : Stage) (kept : IsKept n e s) (l : ℕ) (x : Entry) (here : entry_at s.cross l ≡ Some x)
    (b : Matrix) (hb : IsMatrix b) (is_b : b ≡ without_entry s.cross l) (d : Matrix) (hd : IsMatrix d) (is_d : d ≡ without_row b x.0) (f : Matrix) (hf : IsMatrix f) (is_f : f ≡ without_col d x.1)
    (d_rows : d.active_rows ≡ set b.active_rows x.0 false) (d_cols : d.active_cols ≡ b.active_cols) (f_rows : f.active_rows ≡ d.active_rows) (f_cols : f.active_cols ≡ set d.active_cols x.1 false) (f_size : f.size ≡ n) where
  abbrev a : Matrix
  a = s.cross

  pub read : AreRead n e x.0 x.1 (cell f) x.2 (row_pairs b x.0) (col_pairs b x.1)
  read = are-read n e a kept.part kept.size l x here b hb is_b d hd is_d f hf is_f

  pub is-active : In x.0 e.rows × In x.1 e.positions × (e.matrix x.0 x.1 ≢ zero_ℚ)
  is-active = active n e a kept.part kept.size l x here b hb is_b d hd is_d f hf is_f

  pub rows-now : f.active_rows ≡ set a.active_rows x.0 false
  rows-now = f_rows ∙ d_rows ∙ ap (λ (m : Matrix). set m.active_rows x.0 false) is_b

  pub cols-now : f.active_cols ≡ set a.active_cols x.1 false
  cols-now = f_cols ∙ ap (λ xs. set xs x.1 false) (d_cols ∙ ap (λ (m : Matrix). m.active_cols) is_b)

  pub row_below : x.0 < n
  row_below = row_left-below n m0 e reached x.0 is-active.0

  pub active-row : (i : ℕ) → In i (others x.0 e.rows) → is_active f.active_rows i ≡ true
  active-row i held =
      let there = in_others x.0 i e.rows held in
      ap (λ xs. is_active xs i) rows-now ∙ get_or-set_other a.active_rows x.0 i false false there.1 ∙ kept.part.row_active i there.0

  pub active-col : (p : ℕ) → In p (others x.1 e.positions) → is_active f.active_cols p ≡ true
  active-col p held =
      let there = in_others x.1 p e.positions held in
      ap (λ xs. is_active xs p) cols-now ∙ get_or-set_other a.active_cols x.1 p false false there.1 ∙ kept.part.col_active p there.0

  off : (active : List Bool) (i j : ℕ) → is_active active i ≡ true → j ≡ i → is_active (set active i false) j ≡ false
  off active i j on e = ap (is_active (set active i false)) e ∙ get_or-set_same active i false false (within active i on)
    where
      within : (xs : List Bool) (k : ℕ) → is_active xs k ≡ true → k < length xs
      within [] k on = absurd cc
      within (y ∷ ys) zero on = omega arith
      within (y ∷ ys) (suc k) on = omega (arith, within ys k on)

  left-row : (i : ℕ) → is_active f.active_rows i ≡ true → In i (others x.0 e.rows)
  left-row i on =
      let on_set : is_active (set a.active_rows x.0 false) i ≡ true = ap (λ xs. is_active xs i) (sym rows-now) ∙ on in
      ⊎_elim
      (λ (e : i ≡ x.0). let gone = off a.active_rows x.0 i (kept.part.row_active x.0 is-active.0) e in absurd cc)
      (λ (ne : i ≢ x.0). others_in x.0 i e.rows (kept.part.row_left i (sym (get_or-set_other a.active_rows x.0 i false false ne) ∙ on_set)) ne)
      (cases_eq i x.0)

  left-col : (p : ℕ) → is_active f.active_cols p ≡ true → In p (others x.1 e.positions)
  left-col p on =
      let on_set : is_active (set a.active_cols x.1 false) p ≡ true = ap (λ xs. is_active xs p) (sym cols-now) ∙ on in
      ⊎_elim
      (λ (e : p ≡ x.1). let gone = off a.active_cols x.1 p (kept.part.col_active x.1 is-active.1) e in absurd cc)
      (λ (ne : p ≢ x.1). others_in x.1 p e.positions (kept.part.col_left p (sym (get_or-set_other a.active_cols x.1 p false false ne) ∙ on_set)) ne)
      (cases_eq p x.1)

  module _ (z : Matrix) (alike : IsAlike f z) (hz : IsMatrix z) (nz : HasNoZero z) (w : ℕ) (ks : List (ℕ × ℚ))
      (settled : settle w (less_lines x.2 (row_pairs b x.0) (cell f) [] (col_pairs b x.1)) ≡ Some (cell z, ks)) where
    abbrev next : Elimination
    next = reaches.next n m0 e reached (x.0, x.1) is-active.0 is-active.1 is-active.2

    part-next : IsActivePart next z
    part-next = record {
      matrix = hz;
      no_zero = nz;
      row_active = λ i held. ap (λ xs. is_active xs i) alike.active_rows ∙ active-row i held;
      row_left = λ i on. left-row i (ap (λ xs. is_active xs i) (sym alike.active_rows) ∙ on);
      col_active = λ p held. ap (λ xs. is_active xs p) alike.active_cols ∙ active-col p held;
      col_left = λ p on. left-col p (ap (λ xs. is_active xs p) (sym alike.active_cols) ∙ on);
      cells = λ i p held inside. pivot-cells n m0 e reached (x.0, x.1) is-active.0 is-active.1 is-active.2 (cell f) x.2 (row_pairs b x.0) (col_pairs b x.1) read w (cell z) ks settled i p held inside;
    }

    kept-row : (i p : ℕ) → ¬ In i (others x.0 e.rows) → next.matrix i p ≡ e.matrix i p
    kept-row i p away = reaches.kept n m0 e reached (x.0, x.1) is-active.0 is-active.1 is-active.2 i p away

    -- what a column gets is the pivot's row
    given : (p : ℕ) → p < n → or_zero (value_at ((x.1, x.2) ∷ row_pairs b x.0) p) ≡ e.matrix x.0 p
    given p lt =
        ⊎_elim
        (λ (e_is : p ≡ x.1).
        ap or_zero (ap (value_at ((x.1, x.2) ∷ row_pairs b x.0)) e_is ∙ value-here x.1 x.2 (row_pairs b x.0)) ∙ read.pivot ∙ ap (e.matrix x.0) (sym e_is))
        (λ (ne : p ≢ x.1).
        ap or_zero (value-there x.1 p x.2 (row_pairs b x.0) (λ h. ne (sym h)))
        ∙ ⊎_elim
        (λ (inside : In p e.positions). read.row_entry p (others_in x.1 p e.positions inside ne))
        (λ (done : (pivot : ℕ × ℕ) × (p ≡ pivot.1) × IsDone e.matrix e.rows e.positions pivot).
        by_case p (λ held. done.2.position p (in_others x.1 p e.positions held).0 done.1) (value_at (row_pairs b x.0) p) refl
        ∙ sym (ap (e.matrix x.0) done.1 ∙ done.2.none x.0 is-active.0))
        (position_cases n m0 e reached p lt))
        (cases_eq p x.1)
      where
        by_case : (p : ℕ) → ¬ In p (others x.1 e.positions) → (o : Option ℚ) → value_at (row_pairs b x.0) p ≡ o → entry (row_pairs b x.0) p ≡ zero_ℚ
        by_case p away None is = ap or_zero is
        by_case p away (Some y) is = absurd (away (read.row_in p y is))

    module _ (row_nonzero : (p : ℕ) (u : ℚ) → value_at (row_pairs b x.0) p ≡ Some u → u ≢ zero_ℚ) where
      given-nonzero : (p : ℕ) (u : ℚ) → value_at ((x.1, x.2) ∷ row_pairs b x.0) p ≡ Some u → u ≢ zero_ℚ
      given-nonzero p u is =
          ⊎_elim
          (λ (e_is : p ≡ x.1).
          let some : Some u ≡ Some x.2 = sym is ∙ ap (value_at ((x.1, x.2) ∷ row_pairs b x.0)) e_is ∙ value-here x.1 x.2 (row_pairs b x.0) in
          let one : u ≡ x.2 = cc in
          λ (none : u ≡ zero_ℚ). is-active.2 (sym read.pivot ∙ sym one ∙ none))
          (λ (ne : p ≢ x.1). row_nonzero p u (sym (value-there x.1 p x.2 (row_pairs b x.0) (λ h. ne (sym h))) ∙ is))
          (cases_eq p x.1)

      module _ (old t : Stage) (old_columns : old.columns ≡ s.columns) (old_rows : old.rows ≡ s.rows) (old_order : old.order ≡ s.order) (old_left : old.left ≡ s.left) (old_etas : old.etas ≡ s.etas)
          (old_cross : old.cross ≡ z) (col_below : x.1 < n) (multipliers : Sparse ℚ) (len : multipliers.length ≡ n) (pairs : multipliers.pairs ≡ ks)
          (written : IsKeptPivot old x.0 x.1 ((x.1, x.2) ∷ row_pairs b x.0) multipliers t) where
        away : ¬ In x.1 (positions_done e.pivots)
        away = not_done e.matrix e.rows e.positions x.1 e.pivots is-active.1 reached.left

        multipliers-is : multipliers ≡ record { length = n; pairs = (reaches.rest n m0 e reached (x.0, x.1) is-active.0 is-active.1 is-active.2).1 }
        multipliers-is =
            ap₂ (λ k ps. record { length = k; pairs = ps }) len
            (pairs ∙ pivot-multipliers n m0 e reached (x.0, x.1) is-active.0 is-active.1 is-active.2 (cell f) x.2 (row_pairs b x.0) (col_pairs b x.1) read w (cell z) ks settled)

        kept-next : IsKept n next t
        kept-next = record {
          size = ap (λ (m : Matrix). m.size) (written.cross ∙ old_cross) ∙ alike.size ∙ f_size;
          part = subst (IsActivePart next) (sym (written.cross ∙ old_cross)) part-next;
          count = written.count ∙ ap (λ v. length v.items) old_columns ∙ kept.count;
          columns = λ p lt.
              subst (IsKeptColumn n next p) (sym (written.columns p ∙ ap (λ v. stored_at x.0 (value_at ((x.1, x.2) ∷ row_pairs b x.0) p) (column_in v.items p)) old_columns))
              (column-next n x.0 e next p (column_in s.columns.items p) (kept.columns p lt) is-active.0 row_below (λ i held. in_others x.0 i e.rows held)
              (λ i held ne. others_in x.0 i e.rows held ne) (λ i out. kept-row i p out) (value_at ((x.1, x.2) ∷ row_pairs b x.0) p) (given p lt) (given-nonzero p));
          rows = written.rows ∙ ap (λ v. set v.items x.1 x.0) old_rows ∙ ap (λ xs. set xs x.1 x.0) kept.rows ∙ rows-next n x.0 x.1 e.pivots col_below away;
          order = written.order ∙ ap (λ xs. order_with_last xs x.1) (old_order ∙ kept.order) ∙ order-next x.0 x.1 e.positions e.pivots away;
          left =
              written.left ∙ ap (λ v. set v.items x.0 false) old_left ∙ ap (λ xs. set xs x.0 false) kept.left ∙ sym rows-now ∙ sym alike.active_rows
              ∙ ap (λ (m : Matrix). m.active_rows) (sym (written.cross ∙ old_cross));
          etas = written.etas ∙ ap₂ (λ xs k. xs ++ Column x.0 k ∷ []) (old_etas ∙ kept.etas) multipliers-is;
        }

        pub kept-pivoted : IsKept n (pivoted n e (x.0, x.1)).answer t
        kept-pivoted = subst (λ (g : Elimination). IsKept n g t) (sym (reaches.next-is n m0 e reached (x.0, x.1) is-active.0 is-active.1 is-active.2)) kept-next
