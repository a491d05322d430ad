-- The point and the ray that an outcome gives are the values of the structurals, and the rates at which they move.
use Rattle.std.proofs.Common.{◌≡◌, ◌≢◌, ℕ, zero, suc, ◌+◌, ◌<◌, ◌⊎◌, inl, inr, List, [], ◌∷◌, map, length, get_or, refl, sym, ◌∙◌, ap, ap₂, subst, cond, eqb, eq-eqb, ne_eqb, arith}
use Rattle.std.proofs.lemmas.List.{get_or-map, length-map}
use Rattle.lp_model.specs.declared.Status.TheVariants as status
use Rattle.rational.specs.Rational.{ℚ, zero_ℚ, one_ℚ, ◌+ℚ◌, ◌-ℚ◌, ◌*ℚ◌, neg_ℚ}
use Rattle.rational.proofs.RationalRing.{ring_ℚ}
use Rattle.rational.proofs.Ring.{◌≐◌, ◌⊖◌, ◌⊗◌, ⊝◌, 𝟘, 𝟙}
use Rattle.rational.specs.Sum.{sum_ℚ, at}
use Rattle.rational.proofs.SumLaws.{at_or_other, sum-cong, sum-none, sum-scale, sum-single, sum-split, sum-sub}
use Rattle.lp_run.specs.Instance.{Instance, column_count, row_count, structural_count}
use Rattle.lp_run.specs.Ends.{by_position, point, ray}
use Rattle.lp_run.specs.State.{State, basic, rest, status_of}
use Rattle.rational.proofs.SparseLaws.{at_index-other, at_index-same}
use Rattle.rational.proofs.VectorLaws.{get-map-upto}
use Rattle.bland_laws.proofs.Holding.{Holds, once, value_at_rest, value_there}
use Rattle.bland_laws.proofs.Standing.{is_basic_or}
use Rattle.bland_laws.proofs.Weights.{along, combined_units, sum-combined, unit, unit-other, unit-same, value}

-- a column that is in no position keeps its other value
by_position-none : (basis : List ℕ) (values : List ℚ) (j : ℕ) (v : ℚ) → ((p : ℕ) → p < length basis → get_or basis p 0 ≢ j) → by_position basis values j v ≡ v
by_position-none [] values j v apart = refl
by_position-none (k ∷ basis) [] j v apart = refl
by_position-none (k ∷ basis) (b ∷ values) j v apart =
    ap (λ t. cond t b (by_position basis values j v)) (ne_eqb k j (apart 0 (omega arith)))
    ∙ by_position-none basis values j v (λ p h. apart (suc p) (omega arith))

-- a column that is in one position alone has the value there
by_position-at : (basis : List ℕ) (values : List ℚ) (j : ℕ) (v : ℚ) (p : ℕ) → p < length basis → p < length values → get_or basis p 0 ≡ j
    → ((k : ℕ) → k < length basis → get_or basis k 0 ≡ j → k ≡ p) → by_position basis values j v ≡ at values p
by_position-at [] values j v p b c same once = absurd (omega arith)
by_position-at (k ∷ basis) [] j v p b c same once = absurd (omega arith)
by_position-at (k ∷ basis) (x ∷ values) j v zero b c same once = ap (λ t. cond t x (by_position basis values j v)) (eq-eqb k j same)
by_position-at (k ∷ basis) (x ∷ values) j v (suc p) b c same once =
    ap (λ t. cond t x (by_position basis values j v)) (ne_eqb k j (λ e. first p (once 0 (omega arith) e)))
    ∙ by_position-at basis values j v p (omega arith) (omega arith) same (λ i d e. back i p (once (suc i) (omega arith) e))
  where
    first : (p : ℕ) → 0 ≡ suc p → ⊥
    first p e = omega arith

    back : (i p : ℕ) → suc i ≡ suc p → i ≡ p
    back i p e = omega arith

-- the columns are the structurals, the logicals and the artificials
pub three_sums : (n m : ℕ) (f : ℕ → ℚ) → sum_ℚ (n + m + m) f ≡ sum_ℚ n f +ℚ sum_ℚ m (λ i. f (n + i)) +ℚ sum_ℚ m (λ i. f (n + m + i))
three_sums n m f = sum-split (n + m) m f ∙ ap (λ z. z +ℚ sum_ℚ m (λ i. f (n + m + i))) (sum-split n m f)

module _ (inst : Instance) (s : State) (h : Holds inst s) where
  -- in a column's position, or in none
  pub by_place : {P : Type 0} (j : ℕ) → j < column_count inst → ((p : ℕ) → p < row_count inst → basic s p ≡ j → P) → ((status_of s j ≢ status.Basic) → P) → P
  by_place {P} j b there resting = by_case (is_basic_or (status_of s j))
    where
      by_case : (status_of s j ≡ status.Basic) ⊎ (status_of s j ≢ status.Basic) → P
      by_case (inl now) = let (p, c, same) = h.found j b now in there p c same
      by_case (inr other) = resting other

  in_none : (j : ℕ) → status_of s j ≢ status.Basic → (p : ℕ) → p < row_count inst → basic s p ≢ j
  in_none j other p b same = other (subst (λ k. status_of s k ≡ status.Basic) same (h.marked p b))

  positioned : (values : List ℚ) → length values ≡ row_count inst → (j : ℕ) (v : ℚ) (p : ℕ) → p < row_count inst → basic s p ≡ j
      → by_position s.basis values j v ≡ at values p
  positioned values each j v p b same =
      by_position-at s.basis values j v p (subst (λ n. p < n) (sym h.table.positions) b) (subst (λ n. p < n) (sym each) b) same
      (λ k c e. once inst s h k p (subst (λ n. k < n) h.table.positions c) b (e ∙ sym same))

  unpositioned : (values : List ℚ) (j : ℕ) (v : ℚ) → status_of s j ≢ status.Basic → by_position s.basis values j v ≡ v
  unpositioned values j v other = by_position-none s.basis values j v (λ p b. in_none j other p (subst (λ n. p < n) h.table.positions b))

  -- the point has the values of the structurals
  pub point_value : (j : ℕ) → j < structural_count inst → at (point inst s h.β) j ≡ value inst s h.β j
  point_value j b =
      get-map-upto (λ j. by_position s.basis h.β j (rest inst s j)) zero_ℚ (structural_count inst) j b
      ∙ by_place j (omega arith)
      (λ p c same. positioned h.β h.values.one_each j (rest inst s j) p c same ∙ sym (value_there inst s h p c) ∙ ap (value inst s h.β) same)
      (λ other. unpositioned h.β j (rest inst s j) other ∙ sym (value_at_rest inst s h j (omega arith) other))

  module _ (q : ℕ) (t : ℚ) (α : List ℚ) (each : length α ≡ row_count inst) (column : q < column_count inst) (not_there : (p : ℕ) → p < row_count inst
      → basic s p ≢ q) where
    -- the rate of column j where column q moves in the direction t
    abbrev pub moved : ℕ → ℚ
    moved j = t *ℚ along inst s q α (unit j)

    -- a basic column moves against the entering one
    pub moved_basic : (p : ℕ) → p < row_count inst → moved (basic s p) ≡ neg_ℚ t *ℚ at α p
    moved_basic p b =
        ap₂ (λ u v. t *ℚ (u -ℚ v)) (at_index-other q (basic s p) one_ℚ (λ e. not_there p b (sym e)))
        (sum-single (row_count inst) p (λ k. unit (basic s p) (basic s k) *ℚ at α k) b
        (λ k c other. unit-other (basic s p) (basic s k) (at α k) (λ same. other (once inst s h k p c b same)))
        ∙ unit-same (basic s p) (at α p))
        ∙ ring_ℚ 2 (λ t a. t ⊗ (𝟘 ⊖ a) ≐ (⊝ t) ⊗ a) tt t (at α p)

    still_basis : (j : ℕ) → ((p : ℕ) → p < row_count inst → basic s p ≢ j) → sum_ℚ (row_count inst) (λ p. unit j (basic s p) *ℚ at α p) ≡ zero_ℚ
    still_basis j apart = sum-none (row_count inst) _ (λ p b. unit-other j (basic s p) (at α p) (apart p b))

    pub moved_entering : moved q ≡ t
    moved_entering = ap₂ (λ u v. t *ℚ (u -ℚ v)) (at_index-same q one_ℚ) (still_basis q not_there) ∙ ring_ℚ 1 (λ t. t ⊗ (𝟙 ⊖ 𝟘) ≐ t) tt t

    -- and no other moves
    pub moved_other : (j : ℕ) → status_of s j ≢ status.Basic → j ≢ q → moved j ≡ zero_ℚ
    moved_other j resting other =
        ap₂ (λ u v. t *ℚ (u -ℚ v)) (at_index-other q j one_ℚ (λ e. other (sym e))) (still_basis j (in_none j resting)) ∙ ring_ℚ 1 (λ t. t ⊗ (𝟘 ⊖ 𝟘) ≐ 𝟘) tt t

    -- the weight moves by the sum over the columns of their weights times their rates
    pub moved_columns : (w : ℕ → ℚ) → t *ℚ along inst s q α w ≡ sum_ℚ (column_count inst) (λ j. w j *ℚ moved j)
    moved_columns w =
        let big = column_count inst in
        ap₂ (λ a b. t *ℚ (a -ℚ b)) (combined_units big w q column)
        (sum-cong (row_count inst) _ _ (λ p b. ap (λ z. z *ℚ at α p) (combined_units big w (basic s p) (h.table.within p b)))
        ∙ sum-combined (row_count inst) big w (λ j p. unit j (basic s p)) (at α))
        ∙ ap (λ z. t *ℚ z) (sym (sum-sub big (λ j. w j *ℚ unit j q) (λ j. w j *ℚ sum_ℚ (row_count inst) (λ p. unit j (basic s p) *ℚ at α p))))
        ∙ sym (sum-scale big t (λ j. w j *ℚ unit j q -ℚ w j *ℚ sum_ℚ (row_count inst) (λ p. unit j (basic s p) *ℚ at α p)))
        ∙ sum-cong big _ _ (λ j b. ring_ℚ 4 (λ t w u v. t ⊗ (w ⊗ u ⊖ w ⊗ v) ≐ w ⊗ (t ⊗ (u ⊖ v))) tt t (w j) (unit j q)
        (sum_ℚ (row_count inst) (λ p. unit j (basic s p) *ℚ at α p)))

    -- the ray has the rates of the structurals
    pub ray_moved : (j : ℕ) → j < structural_count inst → at (ray inst s q t α) j ≡ moved j
    ray_moved j b =
        get-map-upto (λ j. by_position s.basis (map (λ a. neg_ℚ t *ℚ a) α) j (cond (eqb j q) t zero_ℚ)) zero_ℚ (structural_count inst) j b
        ∙ by_place j (omega arith)
        (λ p c same. positioned (map (λ a. neg_ℚ t *ℚ a) α) (length-map α (λ a. neg_ℚ t *ℚ a) ∙ each) j (cond (eqb j q) t zero_ℚ) p c same
        ∙ get_or-map (λ a. neg_ℚ t *ℚ a) α p zero_ℚ zero_ℚ (subst (λ n. p < n) (sym each) c) ∙ sym (moved_basic p c) ∙ ap moved same)
        (λ other. unpositioned (map (λ a. neg_ℚ t *ℚ a) α) j (cond (eqb j q) t zero_ℚ) other
        ∙ at_or_other (λ j. status_of s j ≢ status.Basic → cond (eqb j q) t zero_ℚ ≡ moved j) q j
        (λ resting. ap (λ t'. cond t' t zero_ℚ) (eq-eqb q q refl) ∙ sym moved_entering)
        (λ not_q resting. ap (λ t'. cond t' t zero_ℚ) (ne_eqb j q not_q) ∙ sym (moved_other j resting not_q)) other)
