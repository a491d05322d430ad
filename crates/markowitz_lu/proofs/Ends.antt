-- The code at the end of an elimination.
use Rattle.std.proofs.Common.{◌≡◌, ◌≢◌, ℕ, ◌+◌, ◌-◌, ◌*◌, ◌<◌, ◌≤◌, true, false, List, [], ◌∷◌, ◌++◌, length, map, Some, None, inl, ⊎_elim, refl, sym, ap, ap₂, subst, ◌∙◌, arith}
use Rattle.std.proofs.lemmas.Bool.{cases_eq, cases_lt}
use Rattle.std.proofs.lemmas.List.{get_or_past}
use Rattle.std.proofs.lemmas.List.Elements.{All-from_recursion}
use Rattle.std.proofs.lemmas.List.FromFn.{fill_by_all}
use Rattle.std.proofs.lemmas.Nat.{mul-le}
use Rattle.rational.specs.Rational.{ℚ, zero_ℚ}
use Rattle.rational.specs.Sparse.{upto}
use Rattle.rational.specs.Worked.{done, bind, settle}
use Rattle.rational.proofs.Settling.{settle-done, settle-bind, settle-bind_none}
use Rattle.rational.proofs.VectorLaws.{get-map-upto, length-map-upto}
use Rattle.sparse_cols.specs.Sparse.{IsRising, value_at}
use Rattle.factor_model.specs.Eta.{AreOps, IsOp, apply_back, stored}
use Rattle.factor_model.specs.Vectors.{entry, or_zero, matrix_column, unit_vector, sparse, stored_from}
use Rattle.factor_model.specs.Upper.{In, IsUpper, Pairwise}
use Rattle.factor_model.specs.Edits.{column_in}
use Rattle.factor_model.specs.Factoring.{Elimination, whole, singular, row_paired, form_of, factored_by}
use Rattle.factor_model.proofs.SparseLaws.{stored_cases, sparse-entry, sparse-rising}
use Rattle.factor_model.proofs.PivotLaws.{cases_ℚ}
use Rattle.factor_model.proofs.FactorReaches.{IsReached, row_left-below}
use Rattle.factor_model.proofs.FactoredLaws.{form-upper, none-left}
use Rattle.cross_links.specs.Matrix.{is_active}
use Rattle.markowitz_lu.specs.declared.fault.LuFault.{LuFault}
use Rattle.markowitz_lu.specs.declared.fault.LuFault.TheVariants.{Memory, Unfit, Singular}
use Rattle.markowitz_lu.specs.declared.stage.Stage.{Stage}
use Rattle.markowitz_lu.specs.Fault.{IsCause}
use Rattle.markowitz_lu.specs.Inner.Kept.{IsKept}
use Rattle.markowitz_lu.specs.Inner.Stops.{Stops}
use Rattle.markowitz_lu.proofs.LinkOrder.{value-here, value-there}
use Rattle.markowitz_lu.proofs.Rising.{rising_same, value_from_entry, none_from_entry}

-- ---- a column that is kept is the sparse one

sparse-nonzero : (from : ℕ) (v : List ℚ) (i : ℕ) (x : ℚ) → value_at (stored_from from v) i ≡ Some x → x ≢ zero_ℚ
sparse-nonzero from [] i x is = absurd cc
sparse-nonzero from (y ∷ v) i x is =
    ⊎_elim
    (λ none. sparse-nonzero (from + 1) v i x (ap (λ ps. value_at (ps ++ stored_from (from + 1) v) i) (sym none.1) ∙ is))
    (λ some.
    let at_i : value_at ((from, y) ∷ stored_from (from + 1) v) i ≡ Some x = ap (λ ps. value_at (ps ++ stored_from (from + 1) v) i) (sym some.1) ∙ is in
    ⊎_elim
    (λ (e : from ≡ i).
    let same : Some y ≡ Some x = sym (value-here from y (stored_from (from + 1) v)) ∙ ap (value_at ((from, y) ∷ stored_from (from + 1) v)) e ∙ at_i in
    let one : y ≡ x = cc in
    λ (none : x ≡ zero_ℚ). some.0 (one ∙ none))
    (λ (ne : from ≢ i). sparse-nonzero (from + 1) v i x (sym (value-there from i y (stored_from (from + 1) v) ne) ∙ at_i))
    (cases_eq from i))
    (stored_cases from y)

value-above : (n from : ℕ) (ps : List (ℕ × ℚ)) (j : ℕ) → IsRising n from ps → n ≤ j → value_at ps j ≡ None
value-above n from [] j rising le = refl
value-above n from ((k, x) ∷ ps) j rising le = value-there k j x ps (λ e. omega (arith, rising.1)) ∙ value-above n (k + 1) ps j rising.2 le

module _ (n : ℕ) (m0 : ℕ → ℕ → ℚ) (e : Elimination) (reached : IsReached n m0 e) (s : Stage) (kept : IsKept n e s) where
  -- where no row is flagged, none is left
  pub rows_gone : ((i : ℕ) → is_active s.left.items i ≡ false) → e.rows ≡ []
  rows_gone off = by_case e.rows refl
    where
      by_case : (rows : List ℕ) → e.rows ≡ rows → e.rows ≡ []
      by_case [] is = is
      by_case (r ∷ rows) is =
          let on : is_active s.left.items r ≡ true = ap (λ xs. is_active xs r) kept.left ∙ kept.part.row_active r (subst (In r) (sym is) (inl refl)) in
          let none = off r in
          absurd cc

  -- and the first that is flagged is the least row left
  pub first_row : (r : ℕ) → is_active s.left.items r ≡ true → ((i : ℕ) → i < r → is_active s.left.items i ≡ false) → (rows : List ℕ) × (e.rows ≡ r ∷ rows)
  first_row r on off = by_case e.rows refl
    where
      by_case : (rows : List ℕ) → e.rows ≡ rows → (rest : List ℕ) × (e.rows ≡ r ∷ rest)
      by_case rows is = split rows is (subst (In r) is (kept.part.row_left r (ap (λ xs. is_active xs r) (sym kept.left) ∙ on))) (subst (Pairwise ◌<◌) is reached.rows_rise)
        where
          split : (rows : List ℕ) → e.rows ≡ rows → In r rows → Pairwise ◌<◌ rows → (rest : List ℕ) × (e.rows ≡ r ∷ rest)
          split [] is held rise = absurd held
          split (q ∷ rest) is held rise =
              let q_on : is_active s.left.items q ≡ true = ap (λ xs. is_active xs q) kept.left ∙ kept.part.row_active q (subst (In q) (sym is) (inl refl)) in
              ⊎_elim
              (λ (same : r ≡ q). (rest, is ∙ ap (λ (x : ℕ). x ∷ rest) (sym same)))
              (λ (later : In r rest). let none = off q (rise.0 r later) in absurd cc)
              held

  pub left_below : (r : ℕ) → is_active s.left.items r ≡ true → r < n
  left_below r on = row_left-below n m0 e reached r (kept.part.row_left r (ap (λ xs. is_active xs r) (sym kept.left) ∙ on))

  pub are_ops : AreOps n s.etas
  are_ops = subst (AreOps n) (sym kept.etas) (All-from_recursion (IsOp n) e.ops reached.within)

  module _ (all : e.rows ≡ []) where
    column-is : (p : ℕ) → p < n → column_in s.columns.items p ≡ sparse (matrix_column n e.matrix p)
    column-is p lt =
        let v = matrix_column n e.matrix p in
        let len : length v ≡ n = length-map-upto (λ i. e.matrix i p) n in
        let column = column_in s.columns.items p in
        let k = kept.columns p lt in
        let same_entry : (i : ℕ) → entry column.pairs i ≡ entry (sparse v).pairs i = λ i. ⊎_elim
        (λ (below : i < n).
        k.done_rows i below (λ held. subst (In i) all held) ∙ sym (get-map-upto (λ j. e.matrix j p) zero_ℚ n i below) ∙ sym (sparse-entry v i))
        (λ (le : n ≤ i).
        ap or_zero (value-above n 0 column.pairs i k.rising le) ∙ sym (get_or_past v i zero_ℚ (omega (arith, len, le))) ∙ sym (sparse-entry v i))
        (cases_lt i n) in
        let pairs : column.pairs ≡ (sparse v).pairs = rising_same n 0 column.pairs (sparse v).pairs k.rising (sparse-rising n v len) (λ i. ⊎_elim
        (λ (none : entry (sparse v).pairs i ≡ zero_ℚ).
        none_from_entry column.pairs i (k.nonzero i) (same_entry i ∙ none) ∙ sym (none_from_entry (sparse v).pairs i (sparse-nonzero 0 v i) none))
        (λ (some : entry (sparse v).pairs i ≢ zero_ℚ).
        value_from_entry column.pairs i (entry (sparse v).pairs i) (same_entry i) some ∙ sym (value_from_entry (sparse v).pairs i (entry (sparse v).pairs i) refl some))
        (cases_ℚ (entry (sparse v).pairs i))) in
        ap₂ (λ m ps. record { length = m; pairs = ps }) (k.length ∙ sym len) pairs

    pub form-is : record { columns = s.columns.items; rows = s.rows.items; order = s.order } ≡ form_of n e
    form-is =
        let columns : s.columns.items ≡ map (λ p. sparse (matrix_column n e.matrix p)) (upto n) =
        fill_by_all (λ p. sparse (matrix_column n e.matrix p)) s.columns.items n (record { length = 0; pairs = [] }) kept.count column-is in
        let order : s.order ≡ map (λ pivot. pivot.1) e.pivots =
        kept.order ∙ ap (λ xs. xs ++ map (λ (pivot : ℕ × ℕ). pivot.1) e.pivots) (none-left n m0 e reached all) in
        λ k. record { columns = columns k; rows = kept.rows k; order = order k }

    pub form_upper : IsUpper (length s.rows.items) (record { columns = s.columns.items; rows = s.rows.items; order = s.order })
    form_upper =
        subst (λ (m : ℕ). IsUpper m (record { columns = s.columns.items; rows = s.rows.items; order = s.order })) (sym (ap length kept.rows ∙ length-map-upto (row_paired e.pivots) n))
        (subst (IsUpper n) (sym form-is) (form-upper n m0 e reached all))

    pub factored-whole : (w : ℕ) → settle w (factored_by n e e.rows) ≡ Some (whole s.etas (record { columns = s.columns.items; rows = s.rows.items; order = s.order }))
    factored-whole w =
        ap (λ rows. settle w (factored_by n e rows)) all ∙ settle-done w (whole e.ops (form_of n e)) ∙ ap₂ (λ ops u. Some (whole ops u)) (sym kept.etas) (sym form-is)

  module _ (w r : ℕ) (rows : List ℕ) (is : e.rows ≡ r ∷ rows) where
    by-first : settle w (factored_by n e e.rows) ≡ settle w (bind (apply_back (unit_vector n r) s.etas) (λ y. done (singular y)))
    by-first =
        ap (λ rs. settle w (factored_by n e rs)) is ∙ ap (λ ops. settle w (bind (apply_back (unit_vector n r) ops) (λ y. done (singular y)))) (sym kept.etas)

    pub factored-singular : (y : List ℚ) → settle w (apply_back (unit_vector n r) s.etas) ≡ Some y → settle w (factored_by n e e.rows) ≡ Some (singular y)
    factored-singular y settled =
        by-first ∙ settle-bind w (apply_back (unit_vector n r) s.etas) (λ z. done (singular z)) y settled ∙ settle-done w (singular y)

    pub factored-stops : (f : LuFault) → Stops w (apply_back (unit_vector n r) s.etas) f → IsCause w (factored_by n e e.rows) f
    factored-stops Memory stops = tt
    factored-stops Unfit stops = by-first ∙ settle-bind_none w (apply_back (unit_vector n r) s.etas) (λ z. done (singular z)) stops
    factored-stops (Singular y) stops = absurd stops

    pub back-work : stored s.etas ≤ length e.rows * (n * n)
    back-work =
        let most : n * (n - 1) ≤ n * n = mul-le n (n - 1) n n (omega arith) (omega arith) in
        let one : 1 * (n * n) ≤ length e.rows * (n * n) = mul-le 1 (n * n) (length e.rows) (n * n) (omega (arith, ap length is)) (omega arith) in
        omega (arith, reached.few, most, one, ap stored kept.etas)
