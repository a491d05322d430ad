-- Factors solve for columns and for rows of the matrix that they stand for.
use Rattle.std.proofs.Common.{◌≡◌, ◌≢◌, ℕ, ◌<◌, List, [], ◌∷◌, length, set, ⊎_elim, Some, refl, sym, ◌∙◌, ap, ap₂, subst, arith}
use Rattle.std.specs.List.{AllByRecursion}
use Rattle.std.proofs.lemmas.Bool.{cases_eq}
use Rattle.std.proofs.lemmas.List.{length-set, get_or-set_same, get_or-set_other}
use Rattle.std.proofs.lemmas.List.Elements.{recursion_from_All}
use Rattle.rational.specs.Rational.{ℚ, zero_ℚ, one_ℚ, ◌+ℚ◌, ◌-ℚ◌, ◌*ℚ◌}
use Rattle.rational.specs.Sparse.{at_index}
use Rattle.rational.specs.Matrix.{IsRegular, matrix_times, times_matrix}
use Rattle.rational.proofs.AnswerLaws.{answer-bind, answer-done}
use Rattle.rational.proofs.RationalRing.{ring_ℚ}
use Rattle.rational.proofs.Ring.{◌≐◌, ◌⊕◌, ◌⊖◌, ◌⊗◌, 𝟘}
use Rattle.rational.specs.Sum.{at, sum_ℚ}
use Rattle.rational.specs.Worked.{done, bind, settle}
use Rattle.rational.proofs.Settling.{settle-answer}
use Rattle.rational.proofs.SumLaws.{sum-cong, sum-none, sum-exchange, sum-scale, sum-scale_right, sum-unit}
use Rattle.rational.proofs.SparseLaws.{at_index-other}
use Rattle.rational.proofs.VectorLaws.{get-map-upto, length-map-upto, same_vectors}
use Rattle.sparse_cols.specs.Sparse.{Sparse, IsRising}
use Rattle.factor_model.specs.declared.Op.{Op}
use Rattle.factor_model.specs.declared.Op.TheVariants.{Column, Row}
use Rattle.factor_model.specs.Vectors.{other_entry, vector, matrix_column, unit_vector}
use Rattle.factor_model.specs.Eta.{operate, apply, apply_back, transposed, IsOp}
use Rattle.factor_model.specs.Upper.{Triangle, IsUpper, cell, solve, solve_back}
use Rattle.factor_model.specs.Represents.{Represents}
use Rattle.factor_model.specs.Factors.{Factors, AreFactors, ftran, btran}
use Rattle.factor_model.proofs.LineLaws.{answer-subtract, length-subtract, other-skip}
use Rattle.factor_model.proofs.EtaLaws.{inner, length-operate, length-apply, back-first, transposes}
use Rattle.factor_model.proofs.UpperLaws.{solves_row, solves_position, length-solve_back}
use Rattle.factor_model.proofs.UpdateLaws.{row-own, row-other}

-- ---- each operation can be undone

module _ (n p : ℕ) (k : Sparse ℚ) (lt : p < n) (rising : IsRising n 0 k.pairs) (e : List ℚ) (len : length e ≡ n) where
  more : ℕ → ℚ
  more i = at e i +ℚ other_entry p k.pairs i *ℚ at e p

  undone_column : (v : List ℚ) × (length v ≡ n) × ((operate (Column p k) v).answer ≡ e)
  unfolding more
  undone_column =
      let v = vector n (λ i. at e i +ℚ other_entry p k.pairs i *ℚ at e p) in
      let v_len = length-map-upto (λ i. at e i +ℚ other_entry p k.pairs i *ℚ at e p) n in
      let item = λ (i : ℕ) (below : i < n). get-map-upto (λ j. at e j +ℚ other_entry p k.pairs j *ℚ at e p) zero_ℚ n i below in
      let own : at v p ≡ at e p = item p lt ∙ ap (λ a. at e p +ℚ a *ℚ at e p) (other-skip p k.pairs) ∙ ring_ℚ 1 (λ a. a ⊕ 𝟘 ⊗ a ≐ a) tt (at e p) in (
        v,
        v_len,
        same_vectors (operate (Column p k) v).answer e n (length-subtract p (at v p) v k.pairs ∙ v_len) len
            (λ i below.
            answer-subtract 0 p (at v p) v k.pairs (subst (λ m. IsRising m 0 k.pairs) (sym v_len) rising) i
            ∙ ap₂ (λ a b. a -ℚ other_entry p k.pairs i *ℚ b) (item i below) own
            ∙ ring_ℚ 3 (λ a c b. a ⊕ c ⊗ b ⊖ c ⊗ b ≐ a) tt (at e i) (other_entry p k.pairs i) (at e p)),
      )

  undone_row : (v : List ℚ) × (length v ≡ n) × ((operate (Row p k) v).answer ≡ e)
  undone_row =
      let taken = sum_ℚ n (λ i. other_entry p k.pairs i *ℚ at e i) in
      let v = set e p (at e p +ℚ taken) in
      let v_len : length v ≡ n = length-set e p (at e p +ℚ taken) ∙ len in
      let within : p < length v = omega (arith, lt, v_len) in
      let same : sum_ℚ n (λ i. other_entry p k.pairs i *ℚ at v i) ≡ taken =
      sum-cong n (λ i. other_entry p k.pairs i *ℚ at v i) (λ i. other_entry p k.pairs i *ℚ at e i)
      (λ i below.
      ⊎_elim
      (λ (here : i ≡ p).
      subst (λ j. other_entry p k.pairs j *ℚ at v j ≡ other_entry p k.pairs j *ℚ at e j) (sym here)
      (ap (λ a. a *ℚ at v p) (other-skip p k.pairs) ∙ ring_ℚ 2 (λ a b. 𝟘 ⊗ a ≐ 𝟘 ⊗ b) tt (at v p) (at e p) ∙ ap (λ a. a *ℚ at e p) (sym (other-skip p k.pairs))))
      (λ (ne : i ≢ p). ap (λ a. other_entry p k.pairs i *ℚ a) (get_or-set_other e p i (at e p +ℚ taken) zero_ℚ ne))
      (cases_eq i p)) in (
        v,
        v_len,
        same_vectors (operate (Row p k) v).answer e n (length-operate (Row p k) v ∙ v_len) len
            (λ i below.
            ⊎_elim
            (λ (here : i ≡ p).
            subst (λ j. at (operate (Row p k) v).answer j ≡ at e j) (sym here)
            (row-own n p k v within rising
            ∙ ap₂ (λ a s. a -ℚ s) (get_or-set_same e p (at e p +ℚ taken) zero_ℚ (omega (arith, lt, len))) same
            ∙ ring_ℚ 2 (λ a s. a ⊕ s ⊖ s ≐ a) tt (at e p) taken))
            (λ (ne : i ≢ p). row-other n p k v within rising i ne ∙ get_or-set_other e p i (at e p +ℚ taken) zero_ℚ ne)
            (cases_eq i p)),
      )

undone : (n : ℕ) (op : Op) → IsOp n op → (e : List ℚ) → length e ≡ n → (v : List ℚ) × (length v ≡ n) × ((operate (transposed op) v).answer ≡ e)
undone n (Column p k) within e len = undone_row n p k within.0 within.1 e len
undone n (Row p k) within e len = undone_column n p k within.0 within.1 e len

-- each vector is made by the operations back from one
pub covers : (n : ℕ) (ops : List Op) → AllByRecursion (IsOp n) ops → (e : List ℚ) → length e ≡ n
    → (z : List ℚ) × (length z ≡ n) × ((apply_back z ops).answer ≡ e)
covers n [] within e len = (e, len, answer-done e)
covers n (op ∷ ops) within e len =
    let last = undone n op within.0 e len in
    let rest = covers n ops within.1 last.0 last.1 in
    (rest.0, rest.1, back-first rest.0 op ops ∙ ap (λ v. (operate (transposed op) v).answer) rest.2 ∙ last.2)

-- the product with a unit vector is an item
pub unit-product : (n i : ℕ) (f : ℕ → ℚ) → i < n → sum_ℚ n (λ j. at (unit_vector n i) j *ℚ f j) ≡ f i
unit-product n i f lt =
    sum-cong n (λ j. at (unit_vector n i) j *ℚ f j) (λ j. at_index i j one_ℚ *ℚ f j)
    (λ j below. ap (λ a. a *ℚ f j) (get-map-upto (λ k. at_index k i one_ℚ) zero_ℚ n j below ∙ turned j))
    ∙ sum-unit n i f lt
  where
    turned : (j : ℕ) → at_index j i one_ℚ ≡ at_index i j one_ℚ
    turned j =
        ⊎_elim (λ (e : j ≡ i). subst (λ k. at_index k i one_ℚ ≡ at_index i k one_ℚ) (sym e) refl)
        (λ (ne : j ≢ i). at_index-other j i one_ℚ ne ∙ sym (at_index-other i j one_ℚ (λ e. ne (sym e))))
        (cases_eq j i)

-- ---- solving

module _ (n : ℕ) (ops : List Op) (u : Triangle) (b : ℕ → ℕ → ℚ) (factors : Represents n ops u b) where
  within : AllByRecursion (IsOp n) ops
  within = recursion_from_All (IsOp n) ops factors.within

  -- a vector times a column of the matrix, by way of the form
  forward : (z : List ℚ) → length z ≡ n → (p : ℕ) → p < n → sum_ℚ n (λ i. at (apply_back z ops).answer i *ℚ b i p) ≡ sum_ℚ n (λ i. at z i *ℚ cell u i p)
  forward z len p lt =
      let column = matrix_column n b p in
      sum-cong n (λ i. at (apply_back z ops).answer i *ℚ b i p) (λ i. at (apply_back z ops).answer i *ℚ at column i)
      (λ i below. ap (λ a. at (apply_back z ops).answer i *ℚ a) (sym (get-map-upto (λ j. b j p) zero_ℚ n i below)))
      ∙ transposes n ops within z column len (length-map-upto (λ j. b j p) n)
      ∙ sum-cong n (λ i. at z i *ℚ at (apply column ops).answer i) (λ i. at z i *ℚ cell u i p) (λ i below. ap (λ a. at z i *ℚ a) (factors.columns i p below lt))

  -- z·U = c and y, the operations back from z: y·B = c
  pub backward-solves : (z c : List ℚ) → length z ≡ n → ((p : ℕ) → p < n → sum_ℚ n (λ i. at z i *ℚ cell u i p) ≡ at c p)
      → (p : ℕ) → p < n → times_matrix n (at (apply_back z ops).answer) b p ≡ at c p
  backward-solves z c len solves p lt = forward z len p lt ∙ solves p lt

  -- U·x is what the operations make of a: B·x = a
  pub forward-solves : (a x : List ℚ) → length a ≡ n → ((i : ℕ) → i < n → sum_ℚ n (λ p. cell u i p *ℚ at x p) ≡ at (apply a ops).answer i)
      → (i : ℕ) → i < n → matrix_times n b (at x) i ≡ at a i
  forward-solves a x len solves i lt =
      let e = unit_vector n i in
      let e_len = length-map-upto (λ j. at_index j i one_ℚ) n in
      let there = covers n ops within e e_len in
      let z = there.0 in
      sym (unit-product n i (λ j. sum_ℚ n (λ p. b j p *ℚ at x p)) lt)
      ∙ sum-cong n (λ j. at e j *ℚ sum_ℚ n (λ p. b j p *ℚ at x p)) (λ j. sum_ℚ n (λ p. at e j *ℚ b j p *ℚ at x p)) (λ j below. spread (at e j) (b j))
      ∙ sum-exchange n n (λ j p. at e j *ℚ b j p *ℚ at x p)
      ∙ sum-cong n (λ p. sum_ℚ n (λ j. at e j *ℚ b j p *ℚ at x p)) (λ p. sum_ℚ n (λ j. at z j *ℚ cell u j p *ℚ at x p))
      (λ p below.
      sum-scale_right n (λ j. at e j *ℚ b j p) (at x p)
      ∙ ap (λ s. s *ℚ at x p) (ap (λ w. sum_ℚ n (λ j. at w j *ℚ b j p)) (sym there.2) ∙ forward z there.1 p below)
      ∙ sym (sum-scale_right n (λ j. at z j *ℚ cell u j p) (at x p)))
      ∙ sym (sum-exchange n n (λ j p. at z j *ℚ cell u j p *ℚ at x p))
      ∙ sum-cong n (λ j. sum_ℚ n (λ p. at z j *ℚ cell u j p *ℚ at x p)) (λ j. at z j *ℚ at (apply a ops).answer j)
      (λ j below. sym (spread (at z j) (cell u j)) ∙ ap (λ s. at z j *ℚ s) (solves j below))
      ∙ sym (transposes n ops within z a there.1 len)
      ∙ ap (λ w. inner n w a) there.2
      ∙ unit-product n i (at a) lt
    where
      spread : (c : ℚ) (f : ℕ → ℚ) → c *ℚ sum_ℚ n (λ p. f p *ℚ at x p) ≡ sum_ℚ n (λ p. c *ℚ f p *ℚ at x p)
      spread c f =
          sym (sum-scale n c (λ p. f p *ℚ at x p))
          ∙ sum-cong n (λ p. c *ℚ (f p *ℚ at x p)) (λ p. c *ℚ f p *ℚ at x p) (λ p below. ring_ℚ 3 (λ a b c. a ⊗ (b ⊗ c) ≐ a ⊗ b ⊗ c) tt c (f p) (at x p))

-- a row of numbers times the matrix times a column of them, taken either way
either_way : (n : ℕ) (b : ℕ → ℕ → ℚ) (y x : ℕ → ℚ) → sum_ℚ n (λ p. times_matrix n y b p *ℚ x p) ≡ sum_ℚ n (λ i. y i *ℚ matrix_times n b x i)
either_way n b y x =
    sum-cong n (λ p. times_matrix n y b p *ℚ x p) (λ p. sum_ℚ n (λ i. y i *ℚ b i p *ℚ x p)) (λ p below. sym (sum-scale_right n (λ i. y i *ℚ b i p) (x p)))
    ∙ sum-exchange n n (λ p i. y i *ℚ b i p *ℚ x p)
    ∙ sum-cong n (λ i. sum_ℚ n (λ p. y i *ℚ b i p *ℚ x p)) (λ i. y i *ℚ matrix_times n b x i)
    (λ i below.
    sum-cong n (λ p. y i *ℚ b i p *ℚ x p) (λ p. y i *ℚ (b i p *ℚ x p)) (λ p lt. ring_ℚ 3 (λ a b c. a ⊗ b ⊗ c ≐ a ⊗ (b ⊗ c)) tt (y i) (b i p) (x p))
    ∙ sum-scale n (y i) (λ p. b i p *ℚ x p))

-- a matrix that has factors is regular
pub factors-regular : (n : ℕ) (ops : List Op) (u : Triangle) (b : ℕ → ℕ → ℚ) → Represents n ops u b → IsRegular n b
factors-regular n ops u b factors = record {
  columns = λ v none j lt.
      let c = unit_vector n j in
      let z = (solve_back u c).answer in
      let y = (apply_back z ops).answer in
      sym (unit-product n j v lt)
      ∙ sum-cong n (λ p. at c p *ℚ v p) (λ p. times_matrix n (at y) b p *ℚ v p)
      (λ p below.
      ap (λ a. a *ℚ v p) (sym (backward-solves n ops u b factors z c (length-solve_back n u factors.upper c) (solves_position n u factors.upper c) p below)))
      ∙ either_way n b (at y) v
      ∙ sum-none n (λ i. at y i *ℚ matrix_times n b v i) (λ i below. ap (λ a. at y i *ℚ a) (none i below) ∙ ring_ℚ 1 (λ a. a ⊗ 𝟘 ≐ 𝟘) tt (at y i));
  rows = λ y none i lt.
      let a = unit_vector n i in
      let a_len = length-map-upto (λ j. at_index j i one_ℚ) n in
      let spike = (apply a ops).answer in
      let x = (solve u spike).answer in
      sym (unit-product n i y lt)
      ∙ sum-cong n (λ k. at a k *ℚ y k) (λ k. y k *ℚ matrix_times n b (at x) k)
      (λ k below.
      ap (λ c. c *ℚ y k) (sym (forward-solves n ops u b factors a x a_len (solves_row n u factors.upper spike (length-apply a ops ∙ a_len)) k below))
      ∙ ring_ℚ 2 (λ a b. a ⊗ b ≐ b ⊗ a) tt (matrix_times n b (at x) k) (y k))
      ∙ sym (either_way n b y (at x))
      ∙ sum-none n (λ p. times_matrix n y b p *ℚ at x p) (λ p below. ap (λ c. c *ℚ at x p) (none p below) ∙ ring_ℚ 1 (λ a. 𝟘 ⊗ a ≐ 𝟘) tt (at x p));
}

-- ---- what ftran and btran answer

module _ (w : ℕ) (f : Factors) where
  ftran-is : (a : List ℚ) → (ftran f a).answer ≡ ((apply a f.etas).answer, (solve f.upper (apply a f.etas).answer).answer)
  ftran-is a =
      let spike = (apply a f.etas).answer in
      answer-bind (apply a f.etas) (λ s. bind (solve f.upper s) (λ x. done (s, x)))
      ∙ answer-bind (solve f.upper spike) (λ x. done (spike, x)) ∙ answer-done (spike, (solve f.upper spike).answer)

  -- the first of the two is the spike, of which the form's solution is the second: B·x = a
  pub ftran-spike : (a : List ℚ) (both : List ℚ × List ℚ) → settle w (ftran f a) ≡ Some both → both.0 ≡ (apply a f.etas).answer
  ftran-spike a both settled = ap (λ (q : List ℚ × List ℚ). q.0) (sym (settle-answer w (ftran f a) both settled) ∙ ftran-is a)

  -- and the form solves for the spike
  pub ftran-form : (n : ℕ) → IsUpper n f.upper → (a : List ℚ) → length a ≡ n → (both : List ℚ × List ℚ) → settle w (ftran f a) ≡ Some both
      → (r : ℕ) → r < n → sum_ℚ n (λ p. cell f.upper r p *ℚ at both.1 p) ≡ at both.0 r
  ftran-form n upper a len both settled =
      let spike = (apply a f.etas).answer in
      subst (λ (q : List ℚ × List ℚ). (r : ℕ) → r < n → sum_ℚ n (λ p. cell f.upper r p *ℚ at q.1 p) ≡ at q.0 r)
      (sym (ftran-is a) ∙ settle-answer w (ftran f a) both settled) (solves_row n f.upper upper spike (length-apply a f.etas ∙ len))

module _ (w n : ℕ) (f : Factors) (b : ℕ → ℕ → ℚ) (factors : AreFactors n f b) where
  pub ftran-solves : (a : List ℚ) → length a ≡ n → (both : List ℚ × List ℚ) → settle w (ftran f a) ≡ Some both
      → (i : ℕ) → i < n → matrix_times n b (at both.1) i ≡ at a i
  ftran-solves a len both settled =
      let spike = (apply a f.etas).answer in
      subst (λ (x : List ℚ). (i : ℕ) → i < n → matrix_times n b (at x) i ≡ at a i)
      (sym (ap (λ (q : List ℚ × List ℚ). q.1) (sym (settle-answer w (ftran f a) both settled) ∙ ftran-is w f a)))
      (forward-solves n f.etas f.upper b factors a (solve f.upper spike).answer len (solves_row n f.upper factors.upper spike (length-apply a f.etas ∙ len)))

  pub btran-solves : (c y : List ℚ) → settle w (btran f c) ≡ Some y → (p : ℕ) → p < n → times_matrix n (at y) b p ≡ at c p
  btran-solves c y settled =
      let z = (solve_back f.upper c).answer in
      subst (λ (v : List ℚ). (p : ℕ) → p < n → times_matrix n (at v) b p ≡ at c p)
      (sym (answer-bind (solve_back f.upper c) (λ s. apply_back s f.etas)) ∙ settle-answer w (btran f c) y settled)
      (backward-solves n f.etas f.upper b factors z c (back_length c) (solves_position n f.upper factors.upper c))
    where
      back_length : (c : List ℚ) → length (solve_back f.upper c).answer ≡ n
      back_length c = length-solve_back n f.upper factors.upper c
