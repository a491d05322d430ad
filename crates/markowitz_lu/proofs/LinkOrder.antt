-- A pivot's elimination in the order of the links: its answer, and when its worked values fit.
use Rattle.std.proofs.Common.{◌≡◌, ◌≢◌, ℕ, eqb, List, [], ◌∷◌, Option, Some, None, ⊎_elim, refl, sym, ap, ap₂, subst, ◌∙◌, arith}
use Rattle.std.proofs.lemmas.Bool.{cases_eq, eq-eqb, ne_eqb, cond-true, cond-false}
use Rattle.rational.specs.Rational.{ℚ, zero_ℚ, ◌-ℚ◌, ◌*ℚ◌, ◌/ℚ◌}
use Rattle.rational.proofs.AnswerLaws.{answer-bind, answer-done}
use Rattle.rational.proofs.Settling.{less_answer}
use Rattle.rational.proofs.RationalRing.{ring_ℚ}
use Rattle.rational.proofs.Ring.{◌≐◌, ◌⊖◌, ◌⊗◌, 𝟘}
use Rattle.rational.specs.Worked.{bind, less, quotient}
use Rattle.sparse_cols.specs.Sparse.{IsRising, value_at, insert_pair}
use Rattle.sparse_cols.proofs.Pairs.{IsRising-insert_pair}
use Rattle.factor_model.specs.Vectors.{entry, or_zero}
use Rattle.factor_model.specs.Update.{Lacks, AreApart}
use Rattle.factor_model.specs.Factoring.{Eliminated, with_entry}
use Rattle.factor_model.proofs.LineLaws.{entry-here, entry-there}
use Rattle.factor_model.proofs.UpperLaws.{answer-quotient}
use Rattle.factor_model.proofs.PivotLaws.{with_entry-here, with_entry-row, with_entry-position}
use Rattle.markowitz_lu.specs.Inner.Lines.{less_line, less_lines}
use Rattle.markowitz_lu.proofs.Fitting.{AllFit, fit-done, fit-bind, fit-first, fit-rest, fit-less_none}
use Rattle.markowitz_lu.proofs.LineSteps.{AreAbsent, insert-same, insert-other, still_absent}

-- what a list lacks has no value
pub value-lacks : (i : ℕ) (ps : List (ℕ × ℚ)) → Lacks i ps → value_at ps i ≡ None
value-lacks i [] lacks = refl
value-lacks i ((k, x) ∷ ps) lacks = cond-false (eqb k i) _ _ (ne_eqb k i lacks.0) ∙ value-lacks i ps lacks.1

pub value-here : (i : ℕ) (x : ℚ) (ps : List (ℕ × ℚ)) → value_at ((i, x) ∷ ps) i ≡ Some x
value-here i x ps = cond-true (eqb i i) _ _ (eq-eqb i i refl)

pub value-there : (i j : ℕ) (x : ℚ) (ps : List (ℕ × ℚ)) → i ≢ j → value_at ((i, x) ∷ ps) j ≡ value_at ps j
value-there i j x ps ne = cond-false (eqb i j) _ _ (ne_eqb i j ne)

-- ---- one row

module _ (i : ℕ) (k : ℚ) where
  module _ (p : ℕ) (u : ℚ) (row : List (ℕ × ℚ)) (a : ℕ → ℕ → ℚ) where
    line-step : (less_line i k a ((p, u) ∷ row)).answer ≡ (less_line i k (with_entry a i p (less (a i p) k u).answer) row).answer
    line-step = answer-bind (less (a i p) k u) (λ x. less_line i k (with_entry a i p x) row)

  pub line-others : (row : List (ℕ × ℚ)) (a : ℕ → ℕ → ℚ) (j q : ℕ) → j ≢ i → (less_line i k a row).answer j q ≡ a j q
  line-others [] a j q ne = ap (λ (m : ℕ → ℕ → ℚ). m j q) (answer-done a)
  line-others ((p, u) ∷ row) a j q ne =
      let x = (less (a i p) k u).answer in
      ap (λ (m : ℕ → ℕ → ℚ). m j q) (line-step p u row a) ∙ line-others row (with_entry a i p x) j q ne ∙ with_entry-row a i p x j q ne

  pub line-answer : (row : List (ℕ × ℚ)) (n : ℕ) (a : ℕ → ℕ → ℚ) (q : ℕ) → AreApart n row → (less_line i k a row).answer i q ≡ a i q -ℚ k *ℚ entry row q
  line-answer [] n a q apart = ap (λ (m : ℕ → ℕ → ℚ). m i q) (answer-done a) ∙ ring_ℚ 2 (λ x k. x ≐ x ⊖ k ⊗ 𝟘) tt (a i q) k
  line-answer ((p, u) ∷ row) n a q apart =
      let x = (less (a i p) k u).answer in
      let b = with_entry a i p x in
      ap (λ (m : ℕ → ℕ → ℚ). m i q) (line-step p u row a) ∙ line-answer row n b q apart.2
      ∙ ⊎_elim
      (λ (e : q ≡ p).
      subst (λ (s : ℕ). b i s -ℚ k *ℚ entry row s ≡ a i s -ℚ k *ℚ entry ((p, u) ∷ row) s) (sym e)
      (ap₂ (λ y z. y -ℚ k *ℚ z) (with_entry-here a i p x ∙ less_answer (a i p) k u) (ap or_zero (value-lacks p row apart.1))
      ∙ ring_ℚ 3 (λ y k u. y ⊖ k ⊗ u ⊖ k ⊗ 𝟘 ≐ y ⊖ k ⊗ u) tt (a i p) k u
      ∙ ap (λ z. a i p -ℚ k *ℚ z) (sym (entry-here p u row))))
      (λ (ne : q ≢ p). ap₂ (λ y z. y -ℚ k *ℚ z) (with_entry-position a i p x i q ne) (sym (entry-there p q u row ne)))
      (cases_eq q p)

  module _ (w : ℕ) where
    pub line-fits : (row : List (ℕ × ℚ)) (n : ℕ) (a : ℕ → ℕ → ℚ) → AreApart n row → ((q : ℕ) → AllFit w (less (a i q) k (entry row q))) → AllFit w (less_line i k a row)
    line-fits [] n a apart all = fit-done w a
    line-fits ((p, u) ∷ row) n a apart all =
        let x = (less (a i p) k u).answer in
        let b = with_entry a i p x in
        fit-bind w (less (a i p) k u) (λ y. less_line i k (with_entry a i p y) row) (subst (λ z. AllFit w (less (a i p) k z)) (entry-here p u row) (all p))
        (line-fits row n b apart.2 (λ q. ⊎_elim
        (λ (e : q ≡ p). fit-less_none w (b i q) k (entry row q) (ap (entry row) e ∙ ap or_zero (value-lacks p row apart.1)))
        (λ (ne : q ≢ p).
        subst (λ y. AllFit w (less y k (entry row q))) (sym (with_entry-position a i p x i q ne))
        (subst (λ z. AllFit w (less (a i q) k z)) (entry-there p q u row ne) (all q)))
        (cases_eq q p)))

    pub line-fit : (row : List (ℕ × ℚ)) (n : ℕ) (a : ℕ → ℕ → ℚ) → AreApart n row → AllFit w (less_line i k a row) → (q : ℕ) → AllFit w (less (a i q) k (entry row q))
    line-fit [] n a apart all q = fit-less_none w (a i q) k zero_ℚ refl
    line-fit ((p, u) ∷ row) n a apart all q =
        let x = (less (a i p) k u).answer in
        let b = with_entry a i p x in
        let later = line-fit row n b apart.2 (fit-rest w (less (a i p) k u) (λ y. less_line i k (with_entry a i p y) row) all) q in
        ⊎_elim
        (λ (e : q ≡ p).
        subst (λ (s : ℕ). AllFit w (less (a i s) k (entry ((p, u) ∷ row) s))) (sym e)
        (subst (λ z. AllFit w (less (a i p) k z)) (sym (entry-here p u row)) (fit-first w (less (a i p) k u) (λ y. less_line i k (with_entry a i p y) row) all)))
        (λ (ne : q ≢ p).
        subst (λ z. AllFit w (less (a i q) k z)) (sym (entry-there p q u row ne))
        (subst (λ y. AllFit w (less y k (entry row q))) (with_entry-position a i p x i q ne) later))
        (cases_eq q p)

-- ---- all rows

module _ (u : ℚ) (row : List (ℕ × ℚ)) (n : ℕ) (apart : AreApart n row) where
  -- what is left of row i: its multiple of the pivot's row is taken off, where it has an entry in the column
  abbrev pub swept_by : Option ℚ → (ℕ → ℚ) → ℕ → ℚ
  swept_by None f q = f q
  swept_by (Some e) f q = f q -ℚ (e /ℚ u) *ℚ entry row q

  -- its multiplier
  abbrev pub taken_by : Option ℚ → Option ℚ → Option ℚ
  taken_by None k = k
  taken_by (Some e) k = Some (e /ℚ u)

  module _ (i : ℕ) (e : ℚ) (column : List (ℕ × ℚ)) (a : ℕ → ℕ → ℚ) (ks : List (ℕ × ℚ)) where
    lines-step : (less_lines u row a ks ((i, e) ∷ column)).answer ≡ (less_lines u row (less_line i (e /ℚ u) a row).answer (insert_pair i (e /ℚ u) ks) column).answer
    lines-step =
        answer-bind (quotient e u) (λ k. bind (less_line i k a row) (λ b. less_lines u row b (insert_pair i k ks) column))
        ∙ ap (λ k. (bind (less_line i k a row) (λ b. less_lines u row b (insert_pair i k ks) column)).answer) (answer-quotient e u)
        ∙ answer-bind (less_line i (e /ℚ u) a row) (λ b. less_lines u row b (insert_pair i (e /ℚ u) ks) column)

  pub lines-answer : (column : List (ℕ × ℚ)) (a : ℕ → ℕ → ℚ) (ks : List (ℕ × ℚ)) → AreApart n column → (j q : ℕ)
      → (less_lines u row a ks column).answer.0 j q ≡ swept_by (value_at column j) (a j) q
  lines-answer [] a ks distinct j q = ap (λ (left : Eliminated). left.0 j q) (answer-done (a, ks))
  lines-answer ((i, e) ∷ column) a ks distinct j q =
      let k = e /ℚ u in
      let b = (less_line i k a row).answer in
      ap (λ (left : Eliminated). left.0 j q) (lines-step i e column a ks)
      ∙ lines-answer column b (insert_pair i k ks) distinct.2 j q
      ∙ ⊎_elim
      (λ (same : j ≡ i).
      subst (λ (s : ℕ). swept_by (value_at column s) (b s) q ≡ swept_by (value_at ((i, e) ∷ column) s) (a s) q) (sym same)
      (ap (λ o. swept_by o (b i) q) (value-lacks i column distinct.1) ∙ line-answer i k row n a q apart ∙ ap (λ o. swept_by o (a i) q) (sym (value-here i e column))))
      (λ (ne : j ≢ i).
      ap₂ (λ o f. swept_by o f q) (sym (value-there i j e column (λ h. ne (sym h)))) (λ t s. line-others i k row a j s ne t))
      (cases_eq j i)

  pub lines-taken : (column : List (ℕ × ℚ)) (a : ℕ → ℕ → ℚ) (ks : List (ℕ × ℚ)) → AreApart n column → AreAbsent ks column → (j : ℕ)
      → value_at (less_lines u row a ks column).answer.1 j ≡ taken_by (value_at column j) (value_at ks j)
  lines-taken [] a ks distinct absent j = ap (λ (left : Eliminated). value_at left.1 j) (answer-done (a, ks))
  lines-taken ((i, e) ∷ column) a ks distinct absent j =
      let k = e /ℚ u in
      let b = (less_line i k a row).answer in
      ap (λ (left : Eliminated). value_at left.1 j) (lines-step i e column a ks)
      ∙ lines-taken column b (insert_pair i k ks) distinct.2 (still_absent i k ks column distinct.1 absent.1) j
      ∙ ⊎_elim
      (λ (same : j ≡ i).
      subst (λ (s : ℕ). taken_by (value_at column s) (value_at (insert_pair i k ks) s) ≡ taken_by (value_at ((i, e) ∷ column) s) (value_at ks s)) (sym same)
      (ap₂ taken_by (value-lacks i column distinct.1) (insert-same i k ks absent.0) ∙ ap (λ o. taken_by o (value_at ks i)) (sym (value-here i e column))))
      (λ (ne : j ≢ i). ap₂ taken_by (sym (value-there i j e column (λ h. ne (sym h)))) (insert-other i j k ks (λ h. ne (sym h))))
      (cases_eq j i)

  pub lines-rising : (column : List (ℕ × ℚ)) (a : ℕ → ℕ → ℚ) (ks : List (ℕ × ℚ)) → AreApart n column → AreAbsent ks column → IsRising n 0 ks
      → IsRising n 0 (less_lines u row a ks column).answer.1
  lines-rising [] a ks distinct absent rising = subst (λ (left : Eliminated). IsRising n 0 left.1) (sym (answer-done (a, ks))) rising
  lines-rising ((i, e) ∷ column) a ks distinct absent rising =
      let k = e /ℚ u in
      let b = (less_line i k a row).answer in
      subst (λ (left : Eliminated). IsRising n 0 left.1) (sym (lines-step i e column a ks))
      (lines-rising column b (insert_pair i k ks) distinct.2 (still_absent i k ks column distinct.1 absent.1)
      (IsRising-insert_pair n 0 ks i k rising (omega arith) distinct.0 absent.0))

  module _ (w : ℕ) where
    -- what is worked of a row with this entry in the column fits
    pub record LineFits (a : ℕ → ℕ → ℚ) (i : ℕ) (e : ℚ) : Type 0 where
      pub multiplier : AllFit w (quotient e u)
      pub items : (q : ℕ) → AllFit w (less (a i q) (e /ℚ u) (entry row q))

    LineFits-same : (a b : ℕ → ℕ → ℚ) (i : ℕ) (e : ℚ) → ((q : ℕ) → b i q ≡ a i q) → LineFits a i e → LineFits b i e
    LineFits-same a b i e same h = record {
      multiplier = h.multiplier;
      items = λ q. subst (λ y. AllFit w (less y (e /ℚ u) (entry row q))) (sym (same q)) (h.items q);
    }

    pub lines-fits : (column : List (ℕ × ℚ)) (a : ℕ → ℕ → ℚ) (ks : List (ℕ × ℚ)) → AreApart n column → ((i : ℕ) (e : ℚ) → value_at column i ≡ Some e → LineFits a i e)
        → AllFit w (less_lines u row a ks column)
    lines-fits [] a ks distinct all = fit-done w (a, ks)
    lines-fits ((i, e) ∷ column) a ks distinct all =
        let k = e /ℚ u in
        let b = (less_line i k a row).answer in
        let own = all i e (value-here i e column) in
        fit-bind w (quotient e u) (λ x. bind (less_line i x a row) (λ m. less_lines u row m (insert_pair i x ks) column)) own.multiplier
        (subst (λ x. AllFit w (bind (less_line i x a row) (λ m. less_lines u row m (insert_pair i x ks) column))) (sym (answer-quotient e u))
        (fit-bind w (less_line i k a row) (λ m. less_lines u row m (insert_pair i k ks) column) (line-fits i k w row n a apart own.items)
        (lines-fits column b (insert_pair i k ks) distinct.2 (λ j x is.
        let ne : j ≢ i = λ h. (let none : value_at column j ≡ None = ap (value_at column) h ∙ value-lacks i column distinct.1 in absurd cc) in
        LineFits-same a b j x (λ q. line-others i k row a j q ne) (all j x (value-there i j e column (λ h. ne (sym h)) ∙ is))))))

    pub lines-fit : (column : List (ℕ × ℚ)) (a : ℕ → ℕ → ℚ) (ks : List (ℕ × ℚ)) → AreApart n column → AllFit w (less_lines u row a ks column)
        → (i : ℕ) (e : ℚ) → value_at column i ≡ Some e → LineFits a i e
    lines-fit [] a ks distinct all j x is = absurd cc
    lines-fit ((i, e) ∷ column) a ks distinct all j x is =
        let k = e /ℚ u in
        let b = (less_line i k a row).answer in
        let rest : AllFit w (bind (less_line i k a row) (λ m. less_lines u row m (insert_pair i k ks) column)) =
        subst (λ z. AllFit w (bind (less_line i z a row) (λ m. less_lines u row m (insert_pair i z ks) column))) (answer-quotient e u)
        (fit-rest w (quotient e u) (λ z. bind (less_line i z a row) (λ m. less_lines u row m (insert_pair i z ks) column)) all) in
        ⊎_elim
        (λ (same : j ≡ i).
        let x_is : Some x ≡ Some e = sym is ∙ ap (value_at ((i, e) ∷ column)) same ∙ value-here i e column in
        let one : x ≡ e = cc in
        subst (λ (s : ℕ). LineFits a s x) (sym same) (subst (LineFits a i) (sym one) (record {
          multiplier = fit-first w (quotient e u) (λ z. bind (less_line i z a row) (λ m. less_lines u row m (insert_pair i z ks) column)) all;
          items = line-fit i k w row n a apart (fit-first w (less_line i k a row) (λ m. less_lines u row m (insert_pair i k ks) column) rest);
        })))
        (λ (ne : j ≢ i).
        LineFits-same b a j x (λ q. sym (line-others i k row a j q ne))
        (lines-fit column b (insert_pair i k ks) distinct.2 (fit-rest w (less_line i k a row) (λ m. less_lines u row m (insert_pair i k ks) column) rest) j x
        (sym (value-there i j e column (λ h. ne (sym h))) ∙ is)))
        (cases_eq j i)
