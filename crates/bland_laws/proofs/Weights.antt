-- The weight of a state's values: one sum that is a row's right side, a column's value or the objective, as the columns are weighted.
use Rattle.std.proofs.Common.{◌≡◌, ◌≢◌, ℕ, ◌<◌, List, sym, ◌∙◌, ap, ap₂}
use Rattle.rational.specs.Rational.{ℚ, zero_ℚ, one_ℚ, ◌+ℚ◌, ◌-ℚ◌, ◌*ℚ◌, neg_ℚ}
use Rattle.rational.proofs.RationalRing.{ring_ℚ, *ℚ_assoc, *ℚ_comm}
use Rattle.rational.proofs.Ring.{◌≐◌, ◌⊙◌≗◌⟹◌, ◌⊕◌, ◌⊖◌, ◌⊗◌, ⊝◌, 𝟘, 𝟙}
use Rattle.rational.specs.Sum.{sum_ℚ, at}
use Rattle.rational.proofs.SumLaws.{sum-cong, sum-none, sum-add, sum-sub, sum-scale, sum-scale_right, sum-exchange, sum-single, sum-unit}
use Rattle.lp_run.specs.Instance.{Instance, coefficient, column_count, cost, row_count}
use Rattle.rational.specs.Sparse.{at_index}
use Rattle.lp_run.specs.Solution.{ColumnOf, Prices, Values, reduced}
use Rattle.lp_run.specs.State.{State, basic, rest}
use Rattle.rational.proofs.SparseLaws.{at_index-same, at_index-other}
use Rattle.lp_run.proofs.Unique.{basic_reduced}

-- ── sums over plain numbers ──

-- a combination of rows against a vector is the combination of the rows against it
pub sum-combined : (n m : ℕ) (z : ℕ → ℚ) (a : ℕ → ℕ → ℚ) (v : ℕ → ℚ)
    → sum_ℚ n (λ j. sum_ℚ m (λ i. z i *ℚ a i j) *ℚ v j) ≡ sum_ℚ m (λ i. z i *ℚ sum_ℚ n (λ j. a i j *ℚ v j))
sum-combined n m z a v =
    sum-cong n _ _ (λ j b. sym (sum-scale_right m (λ i. z i *ℚ a i j) (v j)) ∙ sum-cong m _ _ (λ i c. *ℚ_assoc (z i) (a i j) (v j)))
    ∙ sum-exchange n m (λ j i. z i *ℚ (a i j *ℚ v j))
    ∙ sum-cong m _ _ (λ i b. sum-scale n (z i) (λ j. a i j *ℚ v j))

-- a difference against a vector
pub sum-minus : (n : ℕ) (c e v : ℕ → ℚ) → sum_ℚ n (λ j. (c j -ℚ e j) *ℚ v j) ≡ sum_ℚ n (λ j. c j *ℚ v j) -ℚ sum_ℚ n (λ j. e j *ℚ v j)
sum-minus n c e v =
    sum-cong n _ _ (λ j b. ring_ℚ 3 (λ c e v. (c ⊖ e) ⊗ v ≐ c ⊗ v ⊖ e ⊗ v) tt (c j) (e j) (v j))
    ∙ sum-sub n (λ j. c j *ℚ v j) (λ j. e j *ℚ v j)

-- the unit weight of column j
abbrev pub unit : ℕ → ℕ → ℚ
unit j k = at_index k j one_ℚ

pub unit-same : (j : ℕ) (v : ℚ) → unit j j *ℚ v ≡ v
unit-same j v = ap (λ a. a *ℚ v) (at_index-same j one_ℚ) ∙ ring_ℚ 1 (λ v. 𝟙 ⊗ v ≐ v) tt v

pub unit-other : (j k : ℕ) (v : ℚ) → k ≢ j → unit j k *ℚ v ≡ zero_ℚ
unit-other j k v other = ap (λ a. a *ℚ v) (at_index-other k j one_ℚ other) ∙ ring_ℚ 1 (λ v. 𝟘 ⊗ v ≐ 𝟘) tt v

sum-picked : (n j : ℕ) (v : ℕ → ℚ) → j < n → sum_ℚ n (λ k. unit j k *ℚ v k) ≡ v j
sum-picked n j v within = sum-single n j (λ k. unit j k *ℚ v k) within (λ k b other. unit-other j k (v k) other) ∙ unit-same j (v j)

-- a weight is the combination of the unit weights
pub combined_units : (n : ℕ) (w : ℕ → ℚ) (k : ℕ) → k < n → w k ≡ sum_ℚ n (λ j. w j *ℚ unit j k)
combined_units n w k within = sym (sum-cong n _ _ (λ j b. *ℚ_comm (w j) (unit j k)) ∙ sum-unit n k w within)

-- ── the weight of values ──

module _ (inst : Instance) (s : State) (β : List ℚ) where
  -- the values by position and the values at rest, weighted by their columns
  abbrev pub weight : (ℕ → ℚ) → ℚ
  weight w = sum_ℚ (row_count inst) (λ p. w (basic s p) *ℚ at β p) +ℚ sum_ℚ (column_count inst) (λ j. w j *ℚ rest inst s j)

  -- the value of column j
  abbrev pub value : ℕ → ℚ
  value j = weight (unit j)

  pub weight-combined : (m : ℕ) (z : ℕ → ℚ) (a : ℕ → ℕ → ℚ) → weight (λ j. sum_ℚ m (λ i. z i *ℚ a i j)) ≡ sum_ℚ m (λ i. z i *ℚ weight (a i))
  weight-combined m z a =
      ap₂ ◌+ℚ◌ (sum-combined (row_count inst) m z (λ i p. a i (basic s p)) (at β)) (sum-combined (column_count inst) m z a (rest inst s))
      ∙ sym (sum-add m (λ i. z i *ℚ sum_ℚ (row_count inst) (λ p. a i (basic s p) *ℚ at β p)) (λ i. z i *ℚ sum_ℚ (column_count inst)
      (λ j. a i j *ℚ rest inst s j)))
      ∙ sum-cong m _ _ (λ i b. ring_ℚ 3 (λ z x y. z ⊗ x ⊕ z ⊗ y ≐ z ⊗ (x ⊕ y)) tt
      (z i) (sum_ℚ (row_count inst) (λ p. a i (basic s p) *ℚ at β p)) (sum_ℚ (column_count inst) (λ j. a i j *ℚ rest inst s j)))

  pub weight-minus : (c e : ℕ → ℚ) → weight (λ j. c j -ℚ e j) ≡ weight c -ℚ weight e
  weight-minus c e =
      ap₂ ◌+ℚ◌ (sum-minus (row_count inst) (λ p. c (basic s p)) (λ p. e (basic s p)) (at β)) (sum-minus (column_count inst) c e (rest inst s))
      ∙ ring_ℚ 4 (λ a b c d. (a ⊖ b) ⊕ (c ⊖ d) ≐ (a ⊕ c) ⊖ (b ⊕ d)) tt
      (sum_ℚ (row_count inst) (λ p. c (basic s p) *ℚ at β p)) (sum_ℚ (row_count inst) (λ p. e (basic s p) *ℚ at β p))
      (sum_ℚ (column_count inst) (λ j. c j *ℚ rest inst s j)) (sum_ℚ (column_count inst) (λ j. e j *ℚ rest inst s j))

  -- weighted by the coefficients of a row, the values make its right side
  pub row_weight : Values inst s β → (i : ℕ) → i < row_count inst → weight (coefficient inst i) ≡ at inst.right i
  row_weight values i within =
      ap (λ z. sum_ℚ (row_count inst) (λ p. coefficient inst i (basic s p) *ℚ at β p) +ℚ z) (sum-cong (column_count inst) _ _
      (λ j b. *ℚ_comm (coefficient inst i j) (rest inst s j)))
      ∙ ring_ℚ 3 (λ a c r. 𝟙 ⊙ a ≗ r ⊖ c ⟹ a ⊕ c ≐ r) tt
      (sum_ℚ (row_count inst) (λ p. coefficient inst i (basic s p) *ℚ at β p)) (sum_ℚ (column_count inst) (λ j. rest inst s j *ℚ coefficient inst i j))
      (at inst.right i) (values.solves i within)

  -- the weight is the sum over the columns of their weights times their values
  pub weight_by_columns : ((p : ℕ) → p < row_count inst → basic s p < column_count inst) → (w : ℕ → ℚ)
      → weight w ≡ sum_ℚ (column_count inst) (λ j. w j *ℚ value j)
  weight_by_columns basis_within w =
      ap₂ ◌+ℚ◌ (sum-cong (row_count inst) _ _ (λ p b. ap (λ z. z *ℚ at β p) (combined_units (column_count inst) w (basic s p) (basis_within p b))))
      (sum-cong (column_count inst) _ _ (λ j b. ap (λ z. z *ℚ rest inst s j) (combined_units (column_count inst) w j b)))
      ∙ weight-combined (column_count inst) w (λ j k. unit j k)

  -- a column in one position, which rests at 0, has the value there
  pub value_basic : (p : ℕ) → p < row_count inst → basic s p < column_count inst → ((k : ℕ) → k < row_count inst → basic s k ≡ basic s p → k ≡ p)
      → rest inst s (basic s p) ≡ zero_ℚ
      → value (basic s p) ≡ at β p
  value_basic p within column once still =
      ap₂ ◌+ℚ◌
      (sum-single (row_count inst) p (λ k. unit (basic s p) (basic s k) *ℚ at β k) within (λ k b other. unit-other (basic s p) (basic s k) (at β k)
      (λ same. other (once k b same)))
      ∙ unit-same (basic s p) (at β p))
      (sum-picked (column_count inst) (basic s p) (rest inst s) column ∙ still)
      ∙ ring_ℚ 1 (λ a. a ⊕ 𝟘 ≐ a) tt (at β p)

  -- a column in no position has the value at which it rests
  pub value_resting : (j : ℕ) → j < column_count inst → ((p : ℕ) → p < row_count inst → basic s p ≢ j) → value j ≡ rest inst s j
  value_resting j column apart =
      ap₂ ◌+ℚ◌ (sum-none (row_count inst) _ (λ k b. unit-other j (basic s k) (at β k) (apart k b))) (sum-picked (column_count inst) j (rest inst s) column)
      ∙ ring_ℚ 1 (λ a. 𝟘 ⊕ a ≐ a) tt (rest inst s j)

  -- the objective by prices: what they make of the right sides, and the reduced costs of what rests
  pub priced_weight : Values inst s β → (y : List ℚ) → Prices inst s y
      → weight (cost inst s.phase) ≡ sum_ℚ (row_count inst) (λ i. at y i *ℚ at inst.right i) +ℚ sum_ℚ (column_count inst)
      (λ j. reduced inst s y j *ℚ rest inst s j)
  priced_weight values y prices =
      ring_ℚ 4 (λ c p r w. 𝟙 ⊙ w ≗ r ⟹ ⊝ 𝟙 ⊙ w ≗ c ⊖ p ⟹ c ≐ p ⊕ r) tt
      (weight (cost inst s.phase)) (sum_ℚ (row_count inst) (λ i. at y i *ℚ at inst.right i)) (sum_ℚ (column_count inst)
      (λ j. reduced inst s y j *ℚ rest inst s j)) (weight (reduced inst s y))
      by_reduced split
    where
      by_reduced : weight (reduced inst s y) ≡ sum_ℚ (column_count inst) (λ j. reduced inst s y j *ℚ rest inst s j)
      by_reduced =
          ap (λ z. z +ℚ sum_ℚ (column_count inst) (λ j. reduced inst s y j *ℚ rest inst s j))
          (sum-none (row_count inst) _ (λ p b. ap (λ z. z *ℚ at β p) (basic_reduced inst s y prices p b) ∙ ring_ℚ 1 (λ v. 𝟘 ⊗ v ≐ 𝟘) tt (at β p)))
          ∙ ring_ℚ 1 (λ a. 𝟘 ⊕ a ≐ a) tt (sum_ℚ (column_count inst) (λ j. reduced inst s y j *ℚ rest inst s j))

      split : weight (reduced inst s y) ≡ weight (cost inst s.phase) -ℚ sum_ℚ (row_count inst) (λ i. at y i *ℚ at inst.right i)
      split =
          weight-minus (cost inst s.phase) (λ j. sum_ℚ (row_count inst) (λ i. at y i *ℚ coefficient inst i j))
          ∙ ap (λ z. weight (cost inst s.phase) -ℚ z)
          (weight-combined (row_count inst) (at y) (coefficient inst) ∙ sum-cong (row_count inst) _ _ (λ i b. ap (λ z. at y i *ℚ z) (row_weight values i b)))

-- ── a column against the basis ──

module _ (inst : Instance) (s : State) (q : ℕ) (α : List ℚ) where
  -- the weight of column q less that of the basic columns which make it
  abbrev pub along : (ℕ → ℚ) → ℚ
  along w = w q -ℚ sum_ℚ (row_count inst) (λ p. w (basic s p) *ℚ at α p)

  -- in the equations they are the same
  pub along_row : ColumnOf inst s q α → (i : ℕ) → i < row_count inst → along (coefficient inst i) ≡ zero_ℚ
  along_row column i within =
      ap (λ z. coefficient inst i q -ℚ z) (column.solves i within) ∙ ring_ℚ 1 (λ a. a ⊖ a ≐ 𝟘) tt (coefficient inst i q)

  -- so what prices take away is the same, whichever they are
  pub along_priced : ColumnOf inst s q α → (c : ℕ → ℚ) (z : ℕ → ℚ) → along (λ j. c j -ℚ sum_ℚ (row_count inst) (λ i. z i *ℚ coefficient inst i j)) ≡ along c
  along_priced column c z =
      let m = row_count inst in
      let priced = λ (j : ℕ). sum_ℚ m (λ i. z i *ℚ coefficient inst i j) in
      let sums : sum_ℚ m (λ p. priced (basic s p) *ℚ at α p) ≡ priced q = sum-combined m m z (λ i p. coefficient inst i (basic s p)) (at α)
      ∙ sum-cong m _ _ (λ i b. ap (λ a. z i *ℚ a) (column.solves i b)) in
      ap (λ a. c q -ℚ priced q -ℚ a) (sum-minus m (λ p. c (basic s p)) (λ p. priced (basic s p)) (at α))
      ∙ ap (λ a. c q -ℚ priced q -ℚ (sum_ℚ m (λ p. c (basic s p) *ℚ at α p) -ℚ a)) sums
      ∙ ring_ℚ 3 (λ c p b. c ⊖ p ⊖ (b ⊖ p) ≐ c ⊖ b) tt (c q) (priced q) (sum_ℚ m (λ p. c (basic s p) *ℚ at α p))

  -- and with the state's own prices it is the reduced cost
  pub along_cost : ColumnOf inst s q α → (y : List ℚ) → Prices inst s y → along (cost inst s.phase) ≡ reduced inst s y q
  along_cost column y prices =
      sym (along_priced column (cost inst s.phase) (at y))
      ∙ ap (λ z. reduced inst s y q -ℚ z) (sum-none (row_count inst) _ (λ p b. ap (λ z. z *ℚ at α p) (basic_reduced inst s y prices p b)
      ∙ ring_ℚ 1 (λ v. 𝟘 ⊗ v ≐ 𝟘) tt (at α p)))
      ∙ ring_ℚ 1 (λ a. a ⊖ 𝟘 ≐ a) tt (reduced inst s y q)

  -- in a direction, by the rates of the basic columns
  pub along_rates : (t : ℚ) (w : ℕ → ℚ) → t *ℚ along w ≡ t *ℚ w q +ℚ sum_ℚ (row_count inst) (λ p. w (basic s p) *ℚ (neg_ℚ t *ℚ at α p))
  along_rates t w =
      ring_ℚ 3 (λ t q b. t ⊗ (q ⊖ b) ≐ t ⊗ q ⊕ (⊝ t) ⊗ b) tt t (w q) (sum_ℚ (row_count inst) (λ p. w (basic s p) *ℚ at α p))
      ∙ ap (λ z. t *ℚ w q +ℚ z)
      (sym (sum-scale (row_count inst) (neg_ℚ t) (λ p. w (basic s p) *ℚ at α p))
      ∙ sum-cong (row_count inst) _ _ (λ p b. ring_ℚ 3 (λ t w a. t ⊗ (w ⊗ a) ≐ w ⊗ (t ⊗ a)) tt (neg_ℚ t) (w (basic s p)) (at α p)))
