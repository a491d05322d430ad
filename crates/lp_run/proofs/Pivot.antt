-- What a pivot on an element that is not 0 makes of the table, the values and the reduced costs.
use Rattle.std.proofs.Common.{◌≡◌, ◌≢◌, ℕ, ◌+◌, ◌<◌, List, length, refl, sym, ◌∙◌, ap, ap₂, cond, eq-eqb, ne_eqb}
use Rattle.rational.specs.Rational.{ℚ, zero_ℚ, one_ℚ, inverse, ◌+ℚ◌, ◌-ℚ◌, ◌*ℚ◌, ◌/ℚ◌}
use Rattle.rational.proofs.RationalRing.{ring_ℚ}
use Rattle.rational.proofs.Ring.{◌≐◌, ◌⊙◌≗◌⟹◌, ◌⊕◌, ◌⊖◌, ◌⊗◌, 𝟘, 𝟙}
use Rattle.rational.specs.Sum.{sum_ℚ, at}
use Rattle.rational.proofs.SumLaws.{at_or_other, sum-change_two, sum-cong, sum-scale, sum-scale_right, sum-sub, sum-change}
use Rattle.rational.proofs.FieldLaws.{/ℚ-*ℚ, /ℚ_is, *ℚ-inverse}
use Rattle.lp_run.specs.Instance.{Instance, coefficient, column_count, cost, row_count, structural_count}
use Rattle.rational.specs.Sparse.{at_index}
use Rattle.lp_run.specs.Solution.{Values, basis_entry, basis_times, right_left}
use Rattle.lp_run.specs.State.{State, basic, rest}
use Rattle.lp_run.specs.Tableau.{InvertsBasis, IsTableau, logical_part, pivoted, table_cost, repriced}
use Rattle.rational.proofs.SparseLaws.{at_index-same, at_index-other}
use Rattle.lp_run.proofs.Regularity.{tableau_table}

-- a sum of products against a difference
spread : (m : ℕ) (e a b : ℕ → ℚ) (r : ℚ) → sum_ℚ m (λ k. e k *ℚ (a k -ℚ b k *ℚ r)) ≡ sum_ℚ m (λ k. e k *ℚ a k) -ℚ sum_ℚ m (λ k. e k *ℚ b k) *ℚ r
spread m e a b r =
    sum-cong m _ _ (λ k h. ring_ℚ 4 (λ e a b r. e ⊗ (a ⊖ b ⊗ r) ≐ e ⊗ a ⊖ e ⊗ b ⊗ r) tt (e k) (a k) (b k) r)
    ∙ sum-sub m (λ k. e k *ℚ a k) (λ k. e k *ℚ b k *ℚ r)
    ∙ ap (λ z. sum_ℚ m (λ k. e k *ℚ a k) -ℚ z) (sum-scale_right m (λ k. e k *ℚ b k) r)

pub pivoted-at : (table : ℕ → ℕ → ℚ) (p q j : ℕ) → pivoted table p q p j ≡ table p j /ℚ table p q
pivoted-at table p q j = ap (λ b. cond b (table p j /ℚ table p q) (table p j -ℚ table p q *ℚ (table p j /ℚ table p q))) (eq-eqb p p refl)

pub pivoted-other : (table : ℕ → ℕ → ℚ) (p q k j : ℕ) → k ≢ p → pivoted table p q k j ≡ table k j -ℚ table k q *ℚ (table p j /ℚ table p q)
pivoted-other table p q k j other = ap (λ b. cond b (table p j /ℚ table p q) (table k j -ℚ table k q *ℚ (table p j /ℚ table p q))) (ne_eqb k p other)

-- position p changes from the column that is basic there in s to column q, which is basic there in s'; the element at p and q is not 0
pub record Exchanges (inst : Instance) (s s' : State) (table : ℕ → ℕ → ℚ) (p q : ℕ) : Type 0 where
  pub position : p < row_count inst
  pub column : q < column_count inst
  pub element : table p q ≢ zero_ℚ
  pub placed : basic s' p ≡ q
  pub kept : (k : ℕ) → k < row_count inst → k ≢ p → basic s' k ≡ basic s k
  pub basis_within : (k : ℕ) → k < row_count inst → basic s k < column_count inst
  pub phase : s'.phase ≡ s.phase

module _ (inst : Instance) (s s' : State) (table : ℕ → ℕ → ℚ) (p q : ℕ) (x : Exchanges inst s s' table p q) where
  quotient_times : (j : ℕ) → (table p j /ℚ table p q) *ℚ table p q ≡ table p j
  quotient_times j = /ℚ-*ℚ (table p j) (table p q) x.element

  -- a sum over the positions after the pivot, with weights that change in position p alone
  exchange_sum : (e e' : ℕ → ℚ) (j : ℕ) → ((k : ℕ) → k < row_count inst → k ≢ p → e' k ≡ e k)
      → sum_ℚ (row_count inst) (λ k. e' k *ℚ pivoted table p q k j)
      ≡ sum_ℚ (row_count inst) (λ k. e k *ℚ table k j) -ℚ sum_ℚ (row_count inst) (λ k. e k *ℚ table k q) *ℚ (table p j /ℚ table p q) +ℚ e' p *ℚ (table p j /ℚ table p q)
  exchange_sum e e' j same =
      let m = row_count inst in
      let r = table p j /ℚ table p q in
      sum-change m p (λ k. e k *ℚ (table k j -ℚ table k q *ℚ r)) (λ k. e' k *ℚ pivoted table p q k j) x.position
      (λ k b other. ap₂ ◌*ℚ◌ (same k b other) (pivoted-other table p q k j other))
      ∙ ap₂ (λ a b. a +ℚ (e' p *ℚ b -ℚ e p *ℚ (table p j -ℚ table p q *ℚ r))) (spread m e (λ k. table k j) (λ k. table k q) r) (pivoted-at table p q j)
      ∙ ring_ℚ 7 (λ a b c d f g h. f ⊙ c ⊗ h ≗ g ⟹ (a ⊖ b ⊗ c) ⊕ (d ⊗ c ⊖ f ⊗ (g ⊖ h ⊗ c)) ≐ a ⊖ b ⊗ c ⊕ d ⊗ c) tt
      (sum_ℚ m (λ k. e k *ℚ table k j)) (sum_ℚ m (λ k. e k *ℚ table k q)) r (e' p) (e p) (table p j) (table p q) (quotient_times j)

  -- the basis matrix after the pivot makes of the pivoted table what it made of the table before
  pub pivot_times : (i j : ℕ) → basis_times inst s (λ k. table k q) i ≡ coefficient inst i q → basis_times inst s' (λ k. pivoted table p q k j) i ≡ basis_times inst s (λ k. table k j) i
  pivot_times i j solves =
      let r = table p j /ℚ table p q in
      exchange_sum (basis_entry inst s i) (basis_entry inst s' i) j (λ k b other. ap (coefficient inst i) (x.kept k b other))
      ∙ ap₂ (λ a b. basis_times inst s (λ k. table k j) i -ℚ a *ℚ r +ℚ b *ℚ r) solves (ap (coefficient inst i) x.placed)
      ∙ ring_ℚ 3 (λ a b r. a ⊖ b ⊗ r ⊕ b ⊗ r ≐ a) tt (basis_times inst s (λ k. table k j) i) (coefficient inst i q) r

  -- the reduced costs after the pivot
  pub pivot_costs : (d : ℕ → ℚ) (j : ℕ) → d j ≡ table_cost inst s table j → d q ≡ table_cost inst s table q → repriced table d p q j ≡ table_cost inst s' (pivoted table p q) j
  pivot_costs d j at_j at_q =
      let m = row_count inst in
      let r = table p j /ℚ table p q in
      let before = λ (k : ℕ). cost inst s.phase (basic s k) in
      let behind = λ (k : ℕ). cost inst s'.phase (basic s' k) in
      ap₂ (λ a b. a -ℚ b *ℚ r) at_j at_q
      ∙ ring_ℚ 5 (λ c e f a r. (c ⊖ e) ⊖ (a ⊖ f) ⊗ r ≐ c ⊖ (e ⊖ f ⊗ r ⊕ a ⊗ r)) tt
      (cost inst s.phase j) (sum_ℚ m (λ k. before k *ℚ table k j)) (sum_ℚ m (λ k. before k *ℚ table k q)) (cost inst s.phase q) r
      ∙ ap₂ (λ a b. a -ℚ (sum_ℚ m (λ k. before k *ℚ table k j) -ℚ sum_ℚ m (λ k. before k *ℚ table k q) *ℚ r +ℚ b *ℚ r))
      (ap (λ f. cost inst f j) (sym x.phase)) (sym (ap₂ (cost inst) x.phase x.placed))
      ∙ ap (λ z. cost inst s'.phase j -ℚ z) (sym (exchange_sum before behind j (λ k b other. ap₂ (cost inst) x.phase (x.kept k b other))))

  module _ (entries : (k : ℕ) (j : ℕ) → k < row_count inst → j < column_count inst → table k j ≡ sum_ℚ (row_count inst) (λ i. logical_part inst table k i *ℚ coefficient inst i j)) where
    pivot_row_entries : (j : ℕ) → j < column_count inst → table p j /ℚ table p q ≡ sum_ℚ (row_count inst) (λ i. (logical_part inst table p i /ℚ table p q) *ℚ coefficient inst i j)
    pivot_row_entries j column =
        /ℚ_is (table p j) (table p q) ∙ ap (λ z. z *ℚ inverse (table p q)) (entries p j x.position column)
        ∙ sym (sum-cong (row_count inst) _ _
        (λ i b. ap (λ z. z *ℚ coefficient inst i j) (/ℚ_is (logical_part inst table p i) (table p q))
        ∙ ring_ℚ 3 (λ a v c. a ⊗ v ⊗ c ≐ a ⊗ c ⊗ v) tt (logical_part inst table p i) (inverse (table p q)) (coefficient inst i j))
        ∙ sum-scale_right (row_count inst) (λ i. logical_part inst table p i *ℚ coefficient inst i j) (inverse (table p q)))

    other_row_entries : (k j : ℕ) → k < row_count inst → j < column_count inst
        → table k j -ℚ table k q *ℚ (table p j /ℚ table p q)
        ≡ sum_ℚ (row_count inst) (λ i. (logical_part inst table k i -ℚ table k q *ℚ (logical_part inst table p i /ℚ table p q)) *ℚ coefficient inst i j)
    other_row_entries k j within column =
        let m = row_count inst in
        ap₂ (λ a b. a -ℚ table k q *ℚ b) (entries k j within column) (pivot_row_entries j column)
        ∙ ap (λ z. sum_ℚ m (λ i. logical_part inst table k i *ℚ coefficient inst i j) -ℚ z) (sym (sum-scale m (table k q) (λ i. (logical_part inst table p i /ℚ table p q) *ℚ coefficient inst i j)))
        ∙ sym (sum-sub m (λ i. logical_part inst table k i *ℚ coefficient inst i j) (λ i. table k q *ℚ ((logical_part inst table p i /ℚ table p q) *ℚ coefficient inst i j)))
        ∙ sum-cong m _ _ (λ i b. ring_ℚ 4 (λ a c e r. a ⊗ c ⊖ e ⊗ (r ⊗ c) ≐ (a ⊖ e ⊗ r) ⊗ c) tt (logical_part inst table k i) (coefficient inst i j) (table k q)
        (logical_part inst table p i /ℚ table p q))

    -- a row of the pivoted table is that row's logical part times the columns
    pub pivot_entries : (k j : ℕ) → k < row_count inst → j < column_count inst
        → pivoted table p q k j ≡ sum_ℚ (row_count inst) (λ i. logical_part inst (pivoted table p q) k i *ℚ coefficient inst i j)
    pivot_entries k j within column =
        let P : ℕ → Type 0 = λ k. k < row_count inst → pivoted table p q k j ≡ sum_ℚ (row_count inst) (λ i. logical_part inst (pivoted table p q) k i *ℚ coefficient inst i j) in
        at_or_other P p k
        (λ b. pivoted-at table p q j ∙ pivot_row_entries j column
        ∙ sum-cong (row_count inst) _ _ (λ i c. ap (λ z. z *ℚ coefficient inst i j) (sym (pivoted-at table p q (structural_count inst + i)))))
        (λ other b. pivoted-other table p q k j other ∙ other_row_entries k j b column
        ∙ sum-cong (row_count inst) _ _ (λ i c. ap (λ z. z *ℚ coefficient inst i j) (sym (pivoted-other table p q k (structural_count inst + i) other))))
        within

    -- column q of the pivoted table is the unit column of position p
    pivoted-column : (k : ℕ) → pivoted table p q k q ≡ at_index k p one_ℚ
    pivoted-column k =
        let one_there : table p q /ℚ table p q ≡ one_ℚ = /ℚ_is (table p q) (table p q) ∙ *ℚ-inverse (table p q) x.element in
        at_or_other (λ k. pivoted table p q k q ≡ at_index k p one_ℚ) p k
        (pivoted-at table p q q ∙ one_there ∙ sym (at_index-same p one_ℚ))
        (λ other. pivoted-other table p q k q other ∙ ap (λ z. table k q -ℚ table k q *ℚ z) one_there
        ∙ ring_ℚ 1 (λ a. a ⊖ a ⊗ 𝟙 ≐ 𝟘) tt (table k q) ∙ sym (at_index-other k p one_ℚ other))

    -- a column that has 0 in position p stays as it was
    pivoted-still : (k j : ℕ) → table p j ≡ zero_ℚ → pivoted table p q k j ≡ table k j
    pivoted-still k j none =
        let nothing : table p j /ℚ table p q ≡ zero_ℚ = /ℚ_is (table p j) (table p q) ∙ ap (λ z. z *ℚ inverse (table p q)) none ∙ ring_ℚ 1 (λ a. 𝟘 ⊗ a ≐ 𝟘) tt (inverse (table p q)) in
        at_or_other (λ k. pivoted table p q k j ≡ table k j) p k
        (pivoted-at table p q j ∙ nothing ∙ sym none)
        (λ other. pivoted-other table p q k j other ∙ ap (λ z. table k j -ℚ table k q *ℚ z) nothing ∙ ring_ℚ 2 (λ a b. a ⊖ b ⊗ 𝟘 ≐ a) tt (table k j) (table k q))

    pub pivot_inverse : InvertsBasis inst s (logical_part inst table) → ((i : ℕ) → i < row_count inst
        → basis_times inst s (λ k. table k q) i ≡ coefficient inst i q) → InvertsBasis inst s' (logical_part inst (pivoted table p q))
    pivot_inverse h solves = record {
      right = λ i k b c. pivot_times i (structural_count inst + k) (solves i b) ∙ h.right i k b c;
      left = λ k p' b c. column_after k p' b c;
    }
      where
        basic_column : (k p' : ℕ) → k < row_count inst → p' < row_count inst → p' ≢ p → pivoted table p q k (basic s p') ≡ at_index k p' one_ℚ
        basic_column k p' b c other =
            pivoted-still k (basic s p') (entries p (basic s p') x.position (x.basis_within p' c) ∙ h.left p p' x.position c ∙ at_index-other p p' one_ℚ (λ e. other (sym e)))
            ∙ entries k (basic s p') b (x.basis_within p' c) ∙ h.left k p' b c

        column_after : (k p' : ℕ) → k < row_count inst → p' < row_count inst
            → sum_ℚ (row_count inst) (λ i. logical_part inst (pivoted table p q) k i *ℚ basis_entry inst s' i p') ≡ at_index k p' one_ℚ
        column_after k p' b c =
            let P : ℕ → Type 0 = λ n. n < row_count inst → sum_ℚ (row_count inst) (λ i. logical_part inst (pivoted table p q) k i *ℚ basis_entry inst s' i n) ≡ at_index k n one_ℚ in
            at_or_other P p p'
            (λ d. ap (λ j. sum_ℚ (row_count inst) (λ i. logical_part inst (pivoted table p q) k i *ℚ coefficient inst i j)) x.placed
            ∙ sym (pivot_entries k q b x.column) ∙ pivoted-column k)
            (λ other d. ap (λ j. sum_ℚ (row_count inst) (λ i. logical_part inst (pivoted table p q) k i *ℚ coefficient inst i j)) (x.kept p' d other)
            ∙ sym (pivot_entries k (basic s p') b (x.basis_within p' d)) ∙ basic_column k p' b d other)
            c

  -- the values after a step of the entering column by c, which the basic values meet at the rate of column q against it
  pub record Steps (β β' : List ℚ) (c : ℚ) : Type 0 where
    pub one_each : length β' ≡ row_count inst
    pub kept_values : (k : ℕ) → k < row_count inst → k ≢ p → at β' k ≡ at β k -ℚ table k q *ℚ c
    pub placed_value : at β' p ≡ rest inst s q +ℚ c
    pub leaves_at : rest inst s' (basic s p) ≡ at β p -ℚ table p q *ℚ c
    pub was_basic : rest inst s (basic s p) ≡ zero_ℚ
    pub is_basic : rest inst s' q ≡ zero_ℚ
    pub apart : basic s p ≢ q
    pub others : (j : ℕ) → j < column_count inst → j ≢ basic s p → j ≢ q → rest inst s' j ≡ rest inst s j

  pub pivot_values : (β β' : List ℚ) (c : ℚ) → Steps β β' c → Values inst s β → ((i : ℕ) → i < row_count inst → basis_times inst s (λ k. table k q) i ≡ coefficient inst i q) → Values inst s' β'
  pivot_values β β' c steps values solves = record {
    one_each = steps.one_each;
    solves = λ i b. step_left i
        ∙ ap₂ (λ a e. a -ℚ e *ℚ c +ℚ (coefficient inst i q *ℚ (rest inst s q +ℚ c) -ℚ coefficient inst i (basic s p) *ℚ (at β p -ℚ table p q *ℚ c)))
        (values.solves i b) (solves i b) ∙ sym (step_right i);
  }
    where
      step_left : (i : ℕ) → basis_times inst s' (at β') i
          ≡ basis_times inst s (at β) i -ℚ basis_times inst s (λ k. table k q) i *ℚ c +ℚ (coefficient inst i q *ℚ (rest inst s q +ℚ c) -ℚ coefficient inst i (basic s p) *ℚ (at β p -ℚ table p q *ℚ c))
      step_left i =
          let m = row_count inst in
          sum-change m p (λ k. basis_entry inst s i k *ℚ (at β k -ℚ table k q *ℚ c)) (λ k. basis_entry inst s' i k *ℚ at β' k) x.position
          (λ k b other. ap₂ ◌*ℚ◌ (ap (coefficient inst i) (x.kept k b other)) (steps.kept_values k b other))
          ∙ ap₂ (λ a b. a +ℚ (b -ℚ basis_entry inst s i p *ℚ (at β p -ℚ table p q *ℚ c))) (spread m (basis_entry inst s i) (at β) (λ k. table k q) c)
          (ap₂ ◌*ℚ◌ (ap (coefficient inst i) x.placed) steps.placed_value)

      step_right : (i : ℕ) → right_left inst s' i
          ≡ right_left inst s i -ℚ coefficient inst i q *ℚ c +ℚ (coefficient inst i q *ℚ (rest inst s q +ℚ c) -ℚ coefficient inst i (basic s p) *ℚ (at β p -ℚ table p q *ℚ c))
      step_right i =
          let a = λ (j : ℕ). coefficient inst i j in
          let before = λ (j : ℕ). rest inst s j *ℚ a j in
          let behind = λ (j : ℕ). rest inst s' j *ℚ a j in
          let r = basic s p in
          ap (λ z. at inst.right i -ℚ z) (sum-change_two (column_count inst) r q before behind (x.basis_within p x.position) x.column steps.apart
          (λ j b d e. ap (λ z. z *ℚ a j) (steps.others j b d e)))
          ∙ ap₂ (λ u v. at inst.right i -ℚ (sum_ℚ (column_count inst) before +ℚ (u *ℚ a r -ℚ v *ℚ a r) +ℚ (behind q -ℚ before q))) steps.leaves_at steps.was_basic
          ∙ ap (λ u. at inst.right i -ℚ (sum_ℚ (column_count inst) before +ℚ ((at β p -ℚ table p q *ℚ c) *ℚ a r -ℚ zero_ℚ *ℚ a r) +ℚ (u *ℚ a q -ℚ before q))) steps.is_basic
          ∙ ring_ℚ 7 (λ b z e f g v c. b ⊖ (z ⊕ (e ⊗ f ⊖ 𝟘 ⊗ f) ⊕ (𝟘 ⊗ g ⊖ v ⊗ g)) ≐ b ⊖ z ⊖ g ⊗ c ⊕ (g ⊗ (v ⊕ c) ⊖ f ⊗ e)) tt
          (at inst.right i) (sum_ℚ (column_count inst) before) (at β p -ℚ table p q *ℚ c) (a r) (a q) (rest inst s q) c

  -- the pivot takes a tableau of s to one of s'
  pub pivot_tableau : (β β' : List ℚ) (d : ℕ → ℚ) (c : ℚ) → IsTableau inst s table β d → Steps β β' c → IsTableau inst s' (pivoted table p q) β' (repriced table d p q)
  pivot_tableau β β' d c h steps = record {
    inverse = pivot_inverse h.entries h.inverse (λ i b. solved i b);
    entries = λ k j b e. pivot_entries h.entries k j b e;
    values = pivot_values β β' c steps h.values (λ i b. solved i b);
    costs = λ j e. pivot_costs d j (h.costs j e) (h.costs q x.column);
  }
    where
      solved : (i : ℕ) → i < row_count inst → basis_times inst s (λ k. table k q) i ≡ coefficient inst i q
      solved i b = tableau_table inst s table β d h i q b x.column
