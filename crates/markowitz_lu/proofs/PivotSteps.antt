-- What a pivot's calls ask, and what they leave.
use Rattle.std.proofs.Common.{◌≡◌, ◌≢◌, ℕ, ◌+◌, ◌*◌, ◌<◌, ◌≤◌, true, false, List, [], ◌∷◌, ◌++◌, length, set, Option, Some, None, refl, sym, ap, ap₂, subst, ◌∙◌, arith, length-append}
use Rattle.std.specs.List.{All}
use Rattle.std.proofs.lemmas.List.{length-map}
use Rattle.std.proofs.lemmas.List.FromFn.{length-range_with_len}
use Rattle.std.proofs.lemmas.List.Sorted.{length_permutation}
use Rattle.std.specs.List.{range_with_len}
use Rattle.std.proofs.lemmas.Nat.{mul-le}
use Rattle.rational.specs.Rational.{ℚ, zero_ℚ}
use Rattle.rational.specs.Worked.{settle}
use Rattle.rational.proofs.VectorLaws.{length-map-upto}
use Rattle.sparse_cols.specs.Sparse.{Sparse, value_at}
use Rattle.factor_model.specs.Vectors.{or_zero}
use Rattle.factor_model.specs.Upper.{In}
use Rattle.factor_model.specs.Update.{AreApart, Lacks}
use Rattle.factor_model.specs.Factoring.{Elimination, row_paired, pivoted}
use Rattle.factor_model.proofs.EditLaws.{in_others}
use Rattle.factor_model.proofs.FactorReaches.{IsReached, positions_done, row_left-below}
use Rattle.cross_links.specs.Matrix.{Entry, Matrix, entry_at, IsMatrix, Has, is_active, row_in, col_in, row_of, col_of, row, col, pair_in, col_pairs, without_entry, without_row, without_col}
use Rattle.cross_links.specs.Cells.{cell, HasNoZero}
use Rattle.cross_links.proofs.Cells.{cell_from_has}
use Rattle.cross_links.proofs.Entries.{row_room, col_count_le}
use Rattle.markowitz_lu.specs.declared.stage.Stage.{Stage}
use Rattle.markowitz_lu.specs.Inner.Kept.{IsKept, IsKeptPivot, IsOpen}
use Rattle.markowitz_lu.specs.Inner.Lines.{place_in, row_pairs, less_lines}
use Rattle.markowitz_lu.specs.Inner.Links.{IsAlike}
use Rattle.markowitz_lu.proofs.LinkOrder.{value-here, value-there}
use Rattle.factor_model.specs.Edits.{column_in}
use Rattle.markowitz_lu.proofs.Pivots.{AreRead, pivot_settles, pivot_stops}
use Rattle.markowitz_lu.proofs.Reading.{no_zero-f, no_zero-b, b_has, row_has, row_entry, row-apart, column-apart, size-b}
use Rattle.markowitz_lu.proofs.Stages.{all_values, read, is-active, active-row, active-col, kept-pivoted}

-- the entry at a link is taken out, and then its row and its column
pub record IsCleared (a : Matrix) (l : ℕ) (x : Entry) (b d f : Matrix) : Type 0 where
  pub here : entry_at a l ≡ Some x
  pub first : IsMatrix b
  pub cancelled : b ≡ without_entry a l
  pub second : IsMatrix d
  pub without_row : d ≡ without_row b x.0
  pub third : IsMatrix f
  pub without_col : f ≡ without_col d x.1
  pub second_rows : d.active_rows ≡ set b.active_rows x.0 false
  pub second_cols : d.active_cols ≡ b.active_cols
  pub third_rows : f.active_rows ≡ d.active_rows
  pub third_cols : f.active_cols ≡ set d.active_cols x.1 false
  pub size : f.size ≡ a.size

-- a row of apart numbers lacks what it has no value of
lacks_value : (n : ℕ) (row : List (ℕ × ℚ)) (p : ℕ) → AreApart n row → value_at row p ≡ None → Lacks p row
lacks_value n [] p apart none = tt
lacks_value n ((q, u) ∷ row) p apart none =
    let ne : q ≢ p = λ e. (let some : value_at ((q, u) ∷ row) p ≡ Some u = ap (value_at ((q, u) ∷ row)) (sym e) ∙ value-here q u row in absurd cc) in
    (ne, lacks_value n row p apart.2 (sym (value-there q p u row ne) ∙ none))

module _ (n : ℕ) (m0 : ℕ → ℕ → ℚ) (e : Elimination) (reached : IsReached n m0 e) (s : Stage) (kept : IsKept n e s) where
  pub order_len : length s.order ≡ n
  order_len =
      omega (
        arith,
        ap length kept.order,
        length-append e.positions (positions_done e.pivots),
        length-append (positions_done e.pivots) e.positions,
        length_permutation (range_with_len 0 n) (positions_done e.pivots ++ e.positions) reached.positions_split,
        length-range_with_len 0 n,
      )

  pub rows_len : length s.rows.items ≡ n
  rows_len = ap length kept.rows ∙ length-map-upto (row_paired e.pivots) n

  module _ (l : ℕ) (x : Entry) (b d f : Matrix) (cl : IsCleared s.cross l x b d f) (col_below : x.1 < n)
      (row_list column_list : List (ℕ × ℚ)) (row_is : row_list ≡ row_pairs b x.0) (column_is : column_list ≡ col_pairs b x.1) where
    f_size : f.size ≡ n
    f_size = cl.size ∙ kept.size

    pub pivot-is : ◌≡◌ {A = ℕ × ℕ} (row_of s.cross l, col_of s.cross l) (x.0, x.1)
    pivot-is = ap₂ (λ (i p : ℕ). (i, p)) (ap row_in cl.here) (ap col_in cl.here)

    pub cleared_no_zero : HasNoZero f
    cleared_no_zero = no_zero-f n e s.cross kept.part kept.size l x cl.here b cl.first cl.cancelled d cl.second cl.without_row f cl.third cl.without_col

    b_no_zero : HasNoZero b
    b_no_zero = no_zero-b n e s.cross kept.part kept.size l x cl.here b cl.first cl.cancelled d cl.second cl.without_row f cl.third cl.without_col

    own_row : AreApart n (row_pairs b x.0)
    own_row = row-apart n e s.cross kept.part kept.size l x cl.here b cl.first cl.cancelled d cl.second cl.without_row f cl.third cl.without_col

    own_column : AreApart n (col_pairs b x.1)
    own_column = column-apart n e s.cross kept.part kept.size l x cl.here b cl.first cl.cancelled d cl.second cl.without_row f cl.third cl.without_col

    pub read_row_apart : AreApart n row_list
    read_row_apart = subst (AreApart n) (sym row_is) own_row

    pub read_column_apart : AreApart n column_list
    read_column_apart = subst (AreApart n) (sym column_is) own_column

    are : AreRead n e x.0 x.1 (cell f) x.2 (row_pairs b x.0) (col_pairs b x.1)
    are = read n m0 e reached s kept l x cl.here b cl.first cl.cancelled d cl.second cl.without_row f cl.third cl.without_col cl.second_rows cl.second_cols cl.third_rows cl.third_cols f_size

    active : In x.0 e.rows × In x.1 e.positions × (e.matrix x.0 x.1 ≢ zero_ℚ)
    active = is-active n m0 e reached s kept l x cl.here b cl.first cl.cancelled d cl.second cl.without_row f cl.third cl.without_col cl.second_rows cl.second_cols cl.third_rows cl.third_cols f_size

    pub read_active_cols : All (λ pair. is_active f.active_cols pair.0 ≡ true) row_list
    read_active_cols =
        all_values (λ p. is_active f.active_cols p ≡ true) n row_list read_row_apart (λ p u is.
        active-col n m0 e reached s kept l x cl.here b cl.first cl.cancelled d cl.second cl.without_row f cl.third cl.without_col cl.second_rows cl.second_cols cl.third_rows cl.third_cols f_size p
        (are.row_in p u (ap (λ ps. value_at ps p) (sym row_is) ∙ is)))

    pub read_active_rows : All (λ pair. is_active f.active_rows pair.0 ≡ true) column_list
    read_active_rows =
        all_values (λ i. is_active f.active_rows i ≡ true) n column_list read_column_apart (λ i u is.
        active-row n m0 e reached s kept l x cl.here b cl.first cl.cancelled d cl.second cl.without_row f cl.third cl.without_col cl.second_rows cl.second_cols cl.third_rows cl.third_cols f_size i
        (are.column_in i u (ap (λ ps. value_at ps i) (sym column_is) ∙ is)).0)

    none_there : (o : Option ℚ) → value_at (row_pairs b x.0) x.1 ≡ o → value_at (row_pairs b x.0) x.1 ≡ None
    none_there None is = is
    none_there (Some u) is = absurd ((in_others x.1 x.1 e.positions (are.row_in x.1 u is)).1 refl)

    pub pairs_apart : AreApart (length s.columns.items) ((x.1, x.2) ∷ row_list)
    pairs_apart =
        subst (λ (k : ℕ). AreApart k ((x.1, x.2) ∷ row_list)) (sym kept.count)
        (col_below, subst (Lacks x.1) (sym row_is) (lacks_value n (row_pairs b x.0) x.1 own_row (none_there (value_at (row_pairs b x.0) x.1) refl)), read_row_apart)

    pub columns_open : (p : ℕ) → p < length s.columns.items → IsOpen x.0 (column_in s.columns.items p)
    columns_open p lt =
        let column = kept.columns p (omega (arith, kept.count, lt)) in
        (omega (arith, column.length, row_left-below n m0 e reached x.0 active.0), column.open_rows x.0 active.0)

    row_nonzero : (p : ℕ) (u : ℚ) → value_at (row_pairs b x.0) p ≡ Some u → u ≢ zero_ℚ
    row_nonzero p u is none =
        cell_from_has b cl.first b_no_zero x.0 p (row_has b cl.first x.0 p u is) (sym (row_entry b cl.first x.0 p) ∙ ap or_zero is ∙ none)

    -- the row has fewer entries than there are rows
    few : length row_list < n
    few =
        let b_size : b.size ≡ n = size-b n e s.cross kept.part kept.size l x cl.here b cl.first cl.cancelled d cl.second cl.without_row f cl.third cl.without_col in
        let absent : Has b x.0 x.1 → ⊥ = λ has. (b_has n e s.cross kept.part kept.size l x cl.here b cl.first cl.cancelled d cl.second cl.without_row f cl.third cl.without_col x.0 x.1 has).0 (refl, refl) in
        let room = row_room b cl.first x.0 x.1 (omega (arith, b_size, col_below)) absent in
        omega (arith, ap length row_is, length-map (row b x.0) (λ k. place_in (entry_at b k)), room, b_size)

    pub work-most : length column_list * (1 + length row_list) ≤ n * n
    work-most =
        let b_size : b.size ≡ n = size-b n e s.cross kept.part kept.size l x cl.here b cl.first cl.cancelled d cl.second cl.without_row f cl.third cl.without_col in
        let count = col_count_le b cl.first x.1 in
        mul-le (length column_list) (1 + length row_list) n n
        (omega (arith, ap length column_is, length-map (col b x.1) (λ k. pair_in (entry_at b k)), count, b_size)) (omega (arith, few))

    module _ (w : ℕ) where
      pub stops-pivot : settle w (less_lines x.2 row_list (cell f) [] column_list) ≡ None → settle w (pivoted n e (row_of s.cross l, col_of s.cross l)) ≡ None
      stops-pivot none =
          ap (λ (p : ℕ × ℕ). settle w (pivoted n e p)) pivot-is
          ∙ pivot_stops n m0 e reached (x.0, x.1) active.0 active.1 active.2 (cell f) x.2 (row_pairs b x.0) (col_pairs b x.1) are w
          (ap₂ (λ rs cs. settle w (less_lines x.2 rs (cell f) [] cs)) (sym row_is) (sym column_is) ∙ none)

      module _ (z : Matrix) (ks : List (ℕ × ℚ)) (settled : settle w (less_lines x.2 row_list (cell f) [] column_list) ≡ Some (cell z, ks)) where
        own_settled : settle w (less_lines x.2 (row_pairs b x.0) (cell f) [] (col_pairs b x.1)) ≡ Some (cell z, ks)
        own_settled = ap₂ (λ rs cs. settle w (less_lines x.2 rs (cell f) [] cs)) (sym row_is) (sym column_is) ∙ settled

        pub settles-pivot : settle w (pivoted n e (row_of s.cross l, col_of s.cross l)) ≡ Some (pivoted n e (row_of s.cross l, col_of s.cross l)).answer
        settles-pivot =
            subst (λ (p : ℕ × ℕ). settle w (pivoted n e p) ≡ Some (pivoted n e p).answer) (sym pivot-is)
            (pivot_settles n m0 e reached (x.0, x.1) active.0 active.1 active.2 (cell f) x.2 (row_pairs b x.0) (col_pairs b x.1) are w (cell z, ks) own_settled)

        module _ (alike : IsAlike f z) (hz : IsMatrix z) (nz : HasNoZero z) (old t : Stage) (old_columns : old.columns ≡ s.columns) (old_rows : old.rows ≡ s.rows) (old_order : old.order ≡ s.order)
            (old_left : old.left ≡ s.left) (old_etas : old.etas ≡ s.etas) (old_cross : old.cross ≡ z) (multipliers : Sparse ℚ) (len : multipliers.length ≡ n)
            (pairs : multipliers.pairs ≡ ks) (written : IsKeptPivot old x.0 x.1 ((x.1, x.2) ∷ row_list) multipliers t) where
          pub keeps-pivot : IsKept n (pivoted n e (row_of s.cross l, col_of s.cross l)).answer t
          keeps-pivot =
              subst (λ (p : ℕ × ℕ). IsKept n (pivoted n e p).answer t) (sym pivot-is)
              (kept-pivoted n m0 e reached s kept l x cl.here b cl.first cl.cancelled d cl.second cl.without_row f cl.third cl.without_col cl.second_rows cl.second_cols cl.third_rows cl.third_cols f_size z alike hz nz w ks own_settled row_nonzero
              old t old_columns old_rows old_order old_left old_etas old_cross col_below multipliers len pairs
              (subst (λ rs. IsKeptPivot old x.0 x.1 ((x.1, x.2) ∷ rs) multipliers t) row_is written))
