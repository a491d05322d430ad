-- After an update the factors stand for the changed matrix, and the new diagonal is the old one times the pivot element.
use Rattle.std.proofs.Common.{◌≡◌, ◌≢◌, ℕ, ◌<◌, eqb, List, [], ◌∷◌, ◌++◌, length, set, ◌⊎◌, inl, inr, ⊎_elim, refl, sym, ◌∙◌, ap, ap₂, subst, arith}
use Rattle.std.proofs.lemmas.Bool.{cases_eq, eq-eqb, ne_eqb, cond-true, cond-false}
use Rattle.std.proofs.lemmas.List.{length-set, get_or-set_same, get_or-set_other}
use Rattle.std.proofs.lemmas.List.Elements.{All-push}
use Rattle.rational.specs.Rational.{ℚ, zero_ℚ, ◌-ℚ◌, ◌*ℚ◌}
use Rattle.rational.proofs.AnswerLaws.{answer-bind, answer-done}
use Rattle.rational.proofs.RationalRing.{ring_ℚ}
use Rattle.rational.proofs.Ring.{◌≐◌, ◌⊖◌, ◌⊗◌, 𝟘}
use Rattle.rational.specs.Sum.{at, sum_ℚ}
use Rattle.rational.specs.Worked.{done, bind}
use Rattle.rational.specs.Lines.{gather}
use Rattle.rational.proofs.FieldLaws.{*ℚ_nonzero}
use Rattle.rational.proofs.SumLaws.{sum-cong, sum-sub, sum-exchange, sum-scale, sum-scale_right, sum-single}
use Rattle.rational.proofs.VectorLaws.{get-map-upto, length-map-upto, same_vectors}
use Rattle.sparse_cols.specs.Sparse.{Sparse, IsRising}
use Rattle.factor_model.specs.declared.Op.{Op}
use Rattle.factor_model.specs.declared.Op.TheVariants.{Row}
use Rattle.factor_model.specs.Vectors.{entry, other_entry, vector, matrix_column, sparse}
use Rattle.factor_model.specs.Eta.{operate, apply, IsOp, entries}
use Rattle.factor_model.specs.Upper.{Triangle, IsUpper, ComesBefore, In, Pairwise, row_of, cell, diagonal, Solves}
use Rattle.factor_model.specs.Represents.{Represents, made}
use Rattle.factor_model.specs.Edits.{clear_row}
use Rattle.factor_model.specs.Update.{behind, less_multiples, multipliers, RowEta, update, row_operation, new_column, updated_upper, with_column, Lacks, AreApart}
use Rattle.factor_model.proofs.LineLaws.{answer-gather, other-skip, other-other}
use Rattle.factor_model.proofs.EtaLaws.{answer-apply, apply-append, length-apply}
use Rattle.factor_model.proofs.UpperShape.{row_below, order_below, in_order}
use Rattle.factor_model.proofs.EditLaws.{cleared-upper, cell-cleared_row, cell-cleared_kept, replaced-upper, cell-replaced_own, cell-replaced_other}
use Rattle.factor_model.proofs.SparseLaws.{sparse-entry, sparse-rising, sparse-fewer}
use Rattle.factor_model.proofs.MultiplierLaws.{sum_pairs, answer-less_multiples, lacks-entry, sum_entries, multipliers-stay, multipliers-clear, multipliers-lack, multipliers-apart}

-- ---- the positions behind one

behind-same : (p q : ℕ) (order : List ℕ) → q ≡ p → behind p (q ∷ order) ≡ order
behind-same p q order e = cond-true (eqb q p) order (behind p order) (eq-eqb q p e)

behind-other : (p q : ℕ) (order : List ℕ) → q ≢ p → behind p (q ∷ order) ≡ behind p order
behind-other p q order ne = cond-false (eqb q p) order (behind p order) (ne_eqb q p ne)

pub behind-in : (p t : ℕ) (order : List ℕ) → In t (behind p order) → In t order
behind-in p t [] held = absurd held
behind-in p t (q ∷ order) held =
    ⊎_elim (λ (e : q ≡ p). inr (subst (In t) (behind-same p q order e) held))
    (λ (ne : q ≢ p). inr (behind-in p t order (subst (In t) (behind-other p q order ne) held)))
    (cases_eq q p)

module _ (R : ℕ → ℕ → Type 0) (p : ℕ) where
  pub behind-pairwise : (order : List ℕ) → Pairwise R order → Pairwise R (behind p order)
  behind-pairwise [] h = tt
  behind-pairwise (q ∷ order) h =
      ⊎_elim (λ (e : q ≡ p). subst (Pairwise R) (sym (behind-same p q order e)) h.1)
      (λ (ne : q ≢ p). subst (Pairwise R) (sym (behind-other p q order ne)) (behind-pairwise order h.1))
      (cases_eq q p)

  -- p stands so to each position behind it
  pub before-behind : (order : List ℕ) → Pairwise R order → (t : ℕ) → In t (behind p order) → R p t
  before-behind [] h t held = absurd held
  before-behind (q ∷ order) h t held =
      ⊎_elim (λ (e : q ≡ p). subst (λ k. R k t) e (h.0 t (subst (In t) (behind-same p q order e) held)))
      (λ (ne : q ≢ p). before-behind order h.1 t (subst (In t) (behind-other p q order ne) held))
      (cases_eq q p)

  -- each position is p, or stands behind it, or stands so to p and to each behind it
  pub where_stands : (order : List ℕ) → Pairwise R order → In p order → (q : ℕ) → In q order
      → (q ≡ p) ⊎ (In q (behind p order) ⊎ (R q p × ((t : ℕ) → In t (behind p order) → R q t)))
  where_stands [] h there q held = absurd held
  where_stands (s ∷ order) h there q held =
      ⊎_elim
      (λ (e : s ≡ p).
      ⊎_elim (λ (here : q ≡ s). inl (here ∙ e)) (λ (later : In q order). inr (inl (subst (In q) (sym (behind-same p s order e)) later))) held)
      (λ (ne : s ≢ p).
      let p_later : In p order = ⊎_elim (λ (e : p ≡ s). absurd (ne (sym e))) (λ (h : In p order). h) there in
      let left = behind-other p s order ne in
      ⊎_elim
      (λ (here : q ≡ s).
      inr (inr (subst (λ k. R k p) (sym here) (h.0 p p_later), λ t held. subst (λ k. R k t) (sym here) (h.0 t (behind-in p t order (subst (In t) left held))))))
      (λ (later : In q order).
      ⊎_elim (λ (same : q ≡ p). inl same)
      (λ rest.
      ⊎_elim (λ (held : In q (behind p order)). inr (inl (subst (In q) (sym left) held)))
      (λ both. inr (inr (both.0, λ t held. both.1 t (subst (In t) left held))))
      rest)
      (where_stands order h.1 p_later q later))
      held)
      (cases_eq s p)

-- ---- a row operation

module _ (n r : ℕ) (k : Sparse ℚ) (v : List ℚ) (lt : r < length v) (rising : IsRising n 0 k.pairs) where
  row-answer : (operate (Row r k) v).answer ≡ set v r (gather r v (at v r) k.pairs).answer
  row-answer = answer-bind (gather r v (at v r) k.pairs) (λ rest. done (set v r rest)) ∙ answer-done (set v r (gather r v (at v r) k.pairs).answer)

  pub row-own : at (operate (Row r k) v).answer r ≡ at v r -ℚ sum_ℚ n (λ i. other_entry r k.pairs i *ℚ at v i)
  row-own =
      ap (λ w. at w r) row-answer ∙ get_or-set_same v r (gather r v (at v r) k.pairs).answer zero_ℚ lt ∙ answer-gather n 0 r v (at v r) k.pairs rising

  pub row-other : (i : ℕ) → i ≢ r → at (operate (Row r k) v).answer i ≡ at v i
  row-other i ne = ap (λ w. at w i) row-answer ∙ get_or-set_other v r i (gather r v (at v r) k.pairs).answer zero_ℚ ne

-- ---- what an update works

-- a form of n rows, a position and a spike
module _ (u : Triangle) (upper : IsUpper (length u.rows) u) (p : ℕ) (lt : p < length u.rows) (spike : List ℚ) (len : length spike ≡ length u.rows) where
  abbrev ks : List (ℕ × ℚ)
  ks = (multipliers u (row_of u p) [] (behind p u.order)).answer

  pub taken-is : (update u p spike).answer.taken ≡ (multipliers u (row_of u p) [] (behind p u.order)).answer
  taken-is =
      let f = λ (ms : List (ℕ × ℚ)). bind (less_multiples (at spike) (at spike (row_of u p)) ms) (λ d. done (record { taken = ms; pivot = d })) in
      let ms = (multipliers u (row_of u p) [] (behind p u.order)).answer in
      ap (λ (x : RowEta). x.taken) (answer-bind (multipliers u (row_of u p) [] (behind p u.order)) f
      ∙ answer-bind (less_multiples (at spike) (at spike (row_of u p)) ms) (λ d. done (record { taken = ms; pivot = d }))
      ∙ answer-done (record { taken = ms; pivot = (less_multiples (at spike) (at spike (row_of u p)) ms).answer }))

  pivot-is : (update u p spike).answer.pivot ≡ at spike (row_of u p) -ℚ sum_pairs (at spike) (multipliers u (row_of u p) [] (behind p u.order)).answer
  pivot-is =
      let f = λ (ms : List (ℕ × ℚ)). bind (less_multiples (at spike) (at spike (row_of u p)) ms) (λ d. done (record { taken = ms; pivot = d })) in
      let ms = (multipliers u (row_of u p) [] (behind p u.order)).answer in
      ap (λ (x : RowEta). x.pivot) (answer-bind (multipliers u (row_of u p) [] (behind p u.order)) f
      ∙ answer-bind (less_multiples (at spike) (at spike (row_of u p)) ms) (λ d. done (record { taken = ms; pivot = d }))
      ∙ answer-done (record { taken = ms; pivot = (less_multiples (at spike) (at spike (row_of u p)) ms).answer }))
      ∙ answer-less_multiples (at spike) (at spike (row_of u p)) ms

  row_lt : row_of u p < length u.rows
  row_lt = row_below (length u.rows) u upper p lt

  behind-below : (t : ℕ) → In t (behind p u.order) → t < length u.rows
  behind-below t held = order_below (length u.rows) u upper t (behind-in p t u.order held)

  pub taken-apart : AreApart (length u.rows) ks
  taken-apart =
      multipliers-apart (length u.rows) u upper (row_of u p) [] (behind p u.order) (behind-pairwise (ComesBefore u) p u.order upper.triangular)
      (λ t held. row_below (length u.rows) u upper t (behind-below t held)) (λ t held. tt) tt

  lacks : Lacks (row_of u p) ks
  lacks =
      multipliers-lack (length u.rows) u upper (row_of u p) (row_of u p) [] (behind p u.order) tt
      (λ t held same. (before-behind (ComesBefore u) p u.order upper.triangular t held).other_rows (sym same))

  -- the multiples of p's own column are 0, and those of each other column are its entry in p's row
  takes_nothing : sum_pairs (λ i. cell u i p) ks ≡ zero_ℚ
  unfolding sum_pairs
  takes_nothing =
      multipliers-stay (length u.rows) u upper (row_of u p) (λ i. cell u i p) [] (behind p u.order)
      (λ t held. (before-behind (ComesBefore u) p u.order upper.triangular t held).no_entry)

  takes_all : (q : ℕ) → q < length u.rows → q ≢ p → sum_pairs (λ i. cell u i q) ks ≡ cell u (row_of u p) q
  unfolding sum_pairs
  takes_all q below ne =
      ⊎_elim (λ (same : q ≡ p). absurd (ne same))
      (λ rest.
      ⊎_elim
      (λ (held : In q (behind p u.order)).
      multipliers-clear (length u.rows) u upper (row_of u p) [] (behind p u.order) (behind-pairwise (ComesBefore u) p u.order upper.triangular) behind-below q held)
      (λ both.
      multipliers-stay (length u.rows) u upper (row_of u p) (λ i. cell u i q) [] (behind p u.order) (λ t held. (both.1 t held).no_entry) ∙ sym both.0.no_entry)
      rest)
      (where_stands (ComesBefore u) p u.order upper.triangular (in_order (length u.rows) u upper p lt) q (in_order (length u.rows) u upper q below))

  -- ---- the row operation

  abbrev stored : List (ℕ × ℚ)
  stored = (sparse (vector (length u.rows) (entry (update u p spike).answer.taken))).pairs

  stored-rising : IsRising (length u.rows) 0 stored
  stored-rising = sparse-rising (length u.rows) (vector (length u.rows) (entry (update u p spike).answer.taken)) (length-map-upto (entry (update u p spike).answer.taken) (length u.rows))

  stored-is : (i : ℕ) → i < length u.rows → other_entry (row_of u p) stored i ≡ entry ks i
  stored-is i below =
      let taken = (update u p spike).answer.taken in
      let item : entry (sparse (vector (length u.rows) (entry taken))).pairs i ≡ entry ks i =
      sparse-entry (vector (length u.rows) (entry taken)) i ∙ get-map-upto (entry taken) zero_ℚ (length u.rows) i below ∙ ap (λ ms. entry ms i) taken-is in
      ⊎_elim
      (λ (same : i ≡ row_of u p).
      subst (λ k. other_entry (row_of u p) (sparse (vector (length u.rows) (entry taken))).pairs k ≡ entry ks k) (sym same)
      (other-skip (row_of u p) (sparse (vector (length u.rows) (entry taken))).pairs ∙ sym (lacks-entry (row_of u p) ks lacks)))
      (λ (ne : i ≢ row_of u p). other-other (row_of u p) (sparse (vector (length u.rows) (entry taken))).pairs i ne ∙ item)
      (cases_eq i (row_of u p))

  -- what it takes from p's row of a vector
  takes : (v : List ℚ) → sum_ℚ (length u.rows) (λ i. other_entry (row_of u p) stored i *ℚ at v i) ≡ sum_pairs (at v) ks
  takes v =
      sum-cong (length u.rows) (λ i. other_entry (row_of u p) stored i *ℚ at v i) (λ i. entry ks i *ℚ at v i) (λ i below. ap (λ a. a *ℚ at v i) (stored-is i below))
      ∙ sum_entries (length u.rows) (at v) ks taken-apart

  takes_cells : (v : List ℚ) (q : ℕ) → ((i : ℕ) → i < length u.rows → at v i ≡ cell u i q) → sum_pairs (at v) ks ≡ sum_pairs (λ i. cell u i q) ks
  takes_cells v q same =
      sym (sum_entries (length u.rows) (at v) ks taken-apart)
      ∙ sum-cong (length u.rows) (λ i. entry ks i *ℚ at v i) (λ i. entry ks i *ℚ cell u i q) (λ i below. ap (λ a. entry ks i *ℚ a) (same i below))
      ∙ sum_entries (length u.rows) (λ i. cell u i q) ks taken-apart

  pub operation-within : IsOp (length u.rows) (row_operation u p (update u p spike).answer)
  operation-within = (row_lt, stored-rising)

  -- fewer entries than rows
  pub operation-entries : entries (row_operation u p (update u p spike).answer) < length u.rows
  operation-entries =
      let v = vector (length u.rows) (entry (update u p spike).answer.taken) in
      let len_v = length-map-upto (entry (update u p spike).answer.taken) (length u.rows) in
      let none : at v (row_of u p) ≡ zero_ℚ =
      get-map-upto (entry (update u p spike).answer.taken) zero_ℚ (length u.rows) (row_of u p) row_lt ∙ ap (λ ms. entry ms (row_of u p)) taken-is
      ∙ lacks-entry (row_of u p) ks lacks in
      omega (arith, sparse-fewer v (row_of u p) (omega (arith, len_v, row_lt)) none, len_v)

  -- ---- the new column

  abbrev new : List (ℕ × ℚ)
  new = (new_column u p spike (update u p spike).answer).pairs

  new-rising : IsRising (length u.rows) 0 new
  new-rising = sparse-rising (length u.rows) (set spike (row_of u p) (update u p spike).answer.pivot) (length-set spike (row_of u p) (update u p spike).answer.pivot ∙ len)

  new-own : entry new (row_of u p) ≡ (update u p spike).answer.pivot
  new-own =
      sparse-entry (set spike (row_of u p) (update u p spike).answer.pivot) (row_of u p)
      ∙ get_or-set_same spike (row_of u p) (update u p spike).answer.pivot zero_ℚ (omega (arith, row_lt, len))

  new-other : (i : ℕ) → i ≢ row_of u p → entry new i ≡ at spike i
  new-other i ne =
      sparse-entry (set spike (row_of u p) (update u p spike).answer.pivot) i ∙ get_or-set_other spike (row_of u p) i (update u p spike).answer.pivot zero_ℚ ne

  -- the new form's cells
  form-own : (i : ℕ) → cell (updated_upper u p spike (update u p spike).answer) i p ≡ entry new i
  form-own i =
      cell-replaced_own (length u.rows) (clear_row u p) (cleared-upper (length u.rows) u upper p lt) p lt (new_column u p spike (update u p spike).answer) i

  form-other : (i q : ℕ) → q ≢ p → cell (updated_upper u p spike (update u p spike).answer) i q ≡ cell (clear_row u p) i q
  form-other i q ne =
      cell-replaced_other (length u.rows) (clear_row u p) (cleared-upper (length u.rows) u upper p lt) p lt (new_column u p spike (update u p spike).answer) i q ne

  -- the new diagonal is the pivot
  pub diagonal-is : diagonal (updated_upper u p spike (update u p spike).answer) p ≡ (update u p spike).answer.pivot
  diagonal-is = form-own (row_of u p) ∙ new-own

  -- where the pivot is not 0 the new form is triangular
  pub updated-upper : (update u p spike).answer.pivot ≢ zero_ℚ → IsUpper (length u.rows) (updated_upper u p spike (update u p spike).answer)
  updated-upper nonzero =
      replaced-upper (length u.rows) (clear_row u p) (cleared-upper (length u.rows) u upper p lt) p lt (new_column u p spike (update u p spike).answer)
      (λ q below ne. cell-cleared_row (length u.rows) u upper p q below ne) new-rising (λ none. nonzero (sym new-own ∙ none))

  -- ---- the pivot

  -- it is the old diagonal times the item in p of each solution of the old form for the spike
  pub pivot-element : (x : List ℚ) → Solves u x spike → (update u p spike).answer.pivot ≡ diagonal u p *ℚ at x p
  pivot-element x solves =
      let m = length u.rows in
      let taken_by : ℕ → ℚ = λ q. sum_ℚ m (λ i. entry ks i *ℚ cell u i q) in
      let left : ℕ → ℚ = λ q. cell u (row_of u p) q *ℚ at x q -ℚ taken_by q *ℚ at x q in
      pivot-is
      ∙ ap₂ (λ a b. a -ℚ b) (sym (solves (row_of u p) row_lt)) (sym (sum_entries m (at spike) ks taken-apart) ∙ exchanged m x solves)
      ∙ sym (sum-sub m (λ q. cell u (row_of u p) q *ℚ at x q) (λ q. taken_by q *ℚ at x q))
      ∙ sum-single m p left lt
      (λ q below ne.
      ap (λ a. cell u (row_of u p) q *ℚ at x q -ℚ a *ℚ at x q) (sum_entries m (λ i. cell u i q) ks taken-apart ∙ takes_all q below ne)
      ∙ ring_ℚ 2 (λ a x. a ⊗ x ⊖ a ⊗ x ≐ 𝟘) tt (cell u (row_of u p) q) (at x q))
      ∙ ap (λ a. diagonal u p *ℚ at x p -ℚ a *ℚ at x p) (sum_entries m (λ i. cell u i p) ks taken-apart ∙ takes_nothing)
      ∙ ring_ℚ 2 (λ d x. d ⊗ x ⊖ 𝟘 ⊗ x ≐ d ⊗ x) tt (diagonal u p) (at x p)
    where
      -- the multiples of the spike are those of the form's columns, each times its item
      exchanged : (m : ℕ) (x : List ℚ) → ((i : ℕ) → i < m → sum_ℚ m (λ q. cell u i q *ℚ at x q) ≡ at spike i)
          → sum_ℚ m (λ i. entry ks i *ℚ at spike i) ≡ sum_ℚ m (λ q. sum_ℚ m (λ i. entry ks i *ℚ cell u i q) *ℚ at x q)
      exchanged m x solves =
          sum-cong m (λ i. entry ks i *ℚ at spike i) (λ i. sum_ℚ m (λ q. entry ks i *ℚ cell u i q *ℚ at x q))
          (λ i below.
          ap (λ a. entry ks i *ℚ a) (sym (solves i below)) ∙ sym (sum-scale m (entry ks i) (λ q. cell u i q *ℚ at x q))
          ∙ sum-cong m (λ q. entry ks i *ℚ (cell u i q *ℚ at x q)) (λ q. entry ks i *ℚ cell u i q *ℚ at x q)
          (λ q lt. ring_ℚ 3 (λ a b c. a ⊗ (b ⊗ c) ≐ a ⊗ b ⊗ c) tt (entry ks i) (cell u i q) (at x q)))
          ∙ sum-exchange m m (λ i q. entry ks i *ℚ cell u i q *ℚ at x q)
          ∙ sum-cong m (λ q. sum_ℚ m (λ i. entry ks i *ℚ cell u i q *ℚ at x q)) (λ q. sum_ℚ m (λ i. entry ks i *ℚ cell u i q) *ℚ at x q)
          (λ q below. sum-scale_right m (λ i. entry ks i *ℚ cell u i q) (at x q))

  pub pivot-nonzero : (x : List ℚ) → Solves u x spike → at x p ≢ zero_ℚ → (update u p spike).answer.pivot ≢ zero_ℚ
  pivot-nonzero x solves some none =
      upper.nonzero p lt (*ℚ_nonzero (at x p) (diagonal u p) some (sym (pivot-element x solves) ∙ none))

  -- ---- the changed matrix

  module _ (ops : List Op) (b : ℕ → ℕ → ℚ) (factors : Represents (length u.rows) ops u b) (a : ℕ → ℚ) (is_spike : spike ≡ (apply (vector (length u.rows) a) ops).answer) where
    abbrev more : List Op
    more = ops ++ row_operation u p (update u p spike).answer ∷ []

    -- what the operations make of a vector, and then the row operation of it
    after : (v : List ℚ) → (apply v more).answer ≡ (operate (row_operation u p (update u p spike).answer) (apply v ops).answer).answer
    after v =
        let op = row_operation u p (update u p spike).answer in
        apply-append v ops (op ∷ []) ∙ answer-apply (apply v ops).answer op [] ∙ answer-done (operate op (apply v ops).answer).answer

    after-own : (v : List ℚ) → length v ≡ length u.rows → at (apply v more).answer (row_of u p) ≡ at (apply v ops).answer (row_of u p) -ℚ sum_pairs (at (apply v ops).answer) ks
    after-own v e =
        let made_of = (apply v ops).answer in
        ap (λ w. at w (row_of u p)) (after v)
        ∙ row-own (length u.rows) (row_of u p) (sparse (vector (length u.rows) (entry (update u p spike).answer.taken))) made_of (omega (arith, row_lt, length-apply v ops, e)) stored-rising
        ∙ ap (λ s. at made_of (row_of u p) -ℚ s) (takes made_of)

    after-other : (v : List ℚ) → length v ≡ length u.rows → (i : ℕ) → i ≢ row_of u p → at (apply v more).answer i ≡ at (apply v ops).answer i
    after-other v e i ne =
        ap (λ w. at w i) (after v)
        ∙ row-other (length u.rows) (row_of u p) (sparse (vector (length u.rows) (entry (update u p spike).answer.taken))) (apply v ops).answer
        (omega (arith, row_lt, length-apply v ops, e)) stored-rising i ne

    own_column : (i : ℕ) → i < length u.rows → at (apply (vector (length u.rows) a) more).answer i ≡ cell (updated_upper u p spike (update u p spike).answer) i p
    own_column i below =
        ⊎_elim
        (λ (same : i ≡ row_of u p).
        subst (λ k. at (apply (vector (length u.rows) a) more).answer k ≡ cell (updated_upper u p spike (update u p spike).answer) k p) (sym same)
        (after-own (vector (length u.rows) a) (length-map-upto a (length u.rows))
        ∙ ap (λ w. at w (row_of u p) -ℚ sum_pairs (at w) ks) (sym is_spike)
        ∙ sym pivot-is ∙ sym diagonal-is))
        (λ (ne : i ≢ row_of u p).
        after-other (vector (length u.rows) a) (length-map-upto a (length u.rows)) i ne ∙ ap (λ w. at w i) (sym is_spike) ∙ sym (new-other i ne) ∙ sym (form-own i))
        (cases_eq i (row_of u p))

    other_column : (q : ℕ) → q < length u.rows → q ≢ p → (i : ℕ) → i < length u.rows
        → at (apply (matrix_column (length u.rows) b q) more).answer i ≡ cell (updated_upper u p spike (update u p spike).answer) i q
    other_column q q_lt q_ne i below =
        let v = matrix_column (length u.rows) b q in
        let v_len = length-map-upto (λ j. b j q) (length u.rows) in
        let cells = λ (j : ℕ) (h : j < length u.rows). factors.columns j q h q_lt in
        ⊎_elim
        (λ (same : i ≡ row_of u p).
        subst (λ k. at (apply v more).answer k ≡ cell (updated_upper u p spike (update u p spike).answer) k q) (sym same)
        (after-own v v_len
        ∙ ap₂ (λ x y. x -ℚ y) (cells (row_of u p) row_lt) (takes_cells (apply v ops).answer q cells ∙ takes_all q q_lt q_ne)
        ∙ ring_ℚ 1 (λ x. x ⊖ x ≐ 𝟘) tt (cell u (row_of u p) q)
        ∙ sym (cell-cleared_row (length u.rows) u upper p q q_lt q_ne) ∙ sym (form-other (row_of u p) q q_ne)))
        (λ (ne : i ≢ row_of u p).
        after-other v v_len i ne ∙ cells i below ∙ sym (cell-cleared_kept (length u.rows) u upper p i q q_lt ne) ∙ sym (form-other i q q_ne))
        (cases_eq i (row_of u p))

    -- the columns of the changed matrix
    changed-own : matrix_column (length u.rows) (with_column b p a) p ≡ vector (length u.rows) a
    changed-own =
        same_vectors (matrix_column (length u.rows) (with_column b p a) p) (vector (length u.rows) a) (length u.rows)
        (length-map-upto (λ i. with_column b p a i p) (length u.rows)) (length-map-upto a (length u.rows))
        (λ i below.
        get-map-upto (λ j. with_column b p a j p) zero_ℚ (length u.rows) i below ∙ cond-true (eqb p p) (a i) (b i p) (eq-eqb p p refl)
        ∙ sym (get-map-upto a zero_ℚ (length u.rows) i below))

    changed-other : (q : ℕ) → q ≢ p → matrix_column (length u.rows) (with_column b p a) q ≡ matrix_column (length u.rows) b q
    changed-other q ne =
        same_vectors (matrix_column (length u.rows) (with_column b p a) q) (matrix_column (length u.rows) b q) (length u.rows)
        (length-map-upto (λ i. with_column b p a i q) (length u.rows)) (length-map-upto (λ i. b i q) (length u.rows))
        (λ i below.
        get-map-upto (λ j. with_column b p a j q) zero_ℚ (length u.rows) i below ∙ cond-false (eqb q p) (a i) (b i q) (ne_eqb q p ne)
        ∙ sym (get-map-upto (λ j. b j q) zero_ℚ (length u.rows) i below))

    -- the updated factors are factors of the changed matrix
    pub update-represents : (update u p spike).answer.pivot ≢ zero_ℚ
        → Represents (length u.rows) more (updated_upper u p spike (update u p spike).answer) (with_column b p a)
    update-represents nonzero = record {
      within = All-push (IsOp (length u.rows)) ops (row_operation u p (update u p spike).answer) factors.within operation-within;
      upper = updated-upper nonzero;
      columns = λ i q below q_lt.
          ⊎_elim
          (λ (same : q ≡ p).
          subst (λ k. made (length u.rows) more (with_column b p a) i k ≡ cell (updated_upper u p spike (update u p spike).answer) i k) (sym same)
          (ap (λ v. at (apply v more).answer i) changed-own ∙ own_column i below))
          (λ (ne : q ≢ p). ap (λ v. at (apply v more).answer i) (changed-other q ne) ∙ other_column q q_lt ne i below)
          (cases_eq q p);
    }
