-- The start of every instance has a table: each row times the sign of its artificial, where that is needed.
use Rattle.std.proofs.Common.{◌≡◌, ℕ, ◌+◌, ◌-◌, ◌<◌, ◌≤◌, Bool, true, false, Option, Some, None, refl, sym, ◌∙◌, ap, ap₂, subst, cond, eqb, ltb, lt-ltb, arith}
use Rattle.std.proofs.lemmas.Bool.{le-ltb, ltb-false, ltb-true}
use Rattle.lp_model.specs.declared.Side.{Side}
use Rattle.lp_model.specs.declared.Side.TheVariants as side
use Rattle.rational.specs.Rational.{ℚ, zero_ℚ, one_ℚ, ◌*ℚ◌}
use Rattle.rational.proofs.RationalRing.{ring_ℚ}
use Rattle.rational.proofs.Ring.{◌≐◌, ◌⊗◌, ⊝◌, 𝟘, 𝟙}
use Rattle.rational.specs.Sum.{sum_ℚ}
use Rattle.rational.proofs.SumLaws.{sum-cong, at_or_other, sum-unit}
use Rattle.lp_run.specs.declared.ColumnKind.TheVariants as column
use Rattle.lp_run.specs.Instance.{Instance, coefficient, kind_coefficient, column_count, column_kind, is_needed, passed_side, row_count, sign_past, structural_count}
use Rattle.rational.specs.Sparse.{at_index}
use Rattle.lp_run.specs.Listing.{start_entry}
use Rattle.lp_run.specs.Solution.{basis_entry}
use Rattle.lp_run.specs.State.{basic, start_basic, start_of}
use Rattle.lp_run.specs.Tableau.{HasTable, InvertsBasis, logical_part}
use Rattle.rational.proofs.SparseLaws.{at_index-same, at_index-other}
use Rattle.rational.proofs.VectorLaws.{get-map-upto, length-map-upto}

module _ (inst : Instance) where
  pub kind_of_structural : (j : ℕ) → j < structural_count inst → column_kind inst j ≡ column.Structural j
  kind_of_structural j within =
      ap (λ b. cond b (column.Structural j) (cond (ltb j (structural_count inst + row_count inst)) (column.Logical (j - structural_count inst))
      (column.Artificial (j - structural_count inst - row_count inst)))) (lt-ltb j (structural_count inst) within)

  pub kind_of_logical : (i : ℕ) → i < row_count inst → column_kind inst (structural_count inst + i) ≡ column.Logical i
  kind_of_logical i within =
      let n = structural_count inst in
      let m = row_count inst in
      let j = n + i in
      let past : n ≤ n + i = omega arith in
      let below : n + i < n + m = omega arith in
      let back : n + i - n ≡ i = omega arith in
      ap (λ b. cond b (column.Structural j) (cond (ltb j (n + m)) (column.Logical (j - n)) (column.Artificial (j - n - m)))) (le-ltb j n past)
      ∙ ap (λ b. cond b (column.Logical (j - n)) (column.Artificial (j - n - m))) (lt-ltb j (n + m) below) ∙ ap column.Logical back

  pub kind_of_artificial : (i : ℕ) → column_kind inst (structural_count inst + row_count inst + i) ≡ column.Artificial i
  kind_of_artificial i =
      let n = structural_count inst in
      let m = row_count inst in
      let j = n + m + i in
      let past : n ≤ n + m + i = omega arith in
      let past_both : n + m ≤ n + m + i = omega arith in
      let back : n + m + i - n - m ≡ i = omega arith in
      ap (λ b. cond b (column.Structural j) (cond (ltb j (n + m)) (column.Logical (j - n)) (column.Artificial (j - n - m)))) (le-ltb j n past)
      ∙ ap (λ b. cond b (column.Logical (j - n)) (column.Artificial (j - n - m))) (le-ltb j (n + m) past_both) ∙ ap column.Artificial back

  pub coefficient-logical : (i k : ℕ) → k < row_count inst → coefficient inst i (structural_count inst + k) ≡ at_index i k one_ℚ
  coefficient-logical i k within = ap (kind_coefficient inst i) (kind_of_logical k within)

  pub coefficient-artificial : (i k : ℕ) → coefficient inst i (structural_count inst + row_count inst + k) ≡ at_index i k (sign_past (passed_side inst k))
  coefficient-artificial i k = ap (kind_coefficient inst i) (kind_of_artificial k)

  -- the element of the start's basis matrix in position p: the artificial's sign where it is needed, else 1
  abbrev pub pivot_sign : ℕ → ℚ
  pivot_sign p = cond (is_needed inst p) (sign_past (passed_side inst p)) one_ℚ

  entry_is : (p j : ℕ) → start_entry inst p j ≡ pivot_sign p *ℚ coefficient inst p j
  entry_is p j = by_need (is_needed inst p) (sign_past (passed_side inst p)) (coefficient inst p j)
    where
      by_need : (b : Bool) (g c : ℚ) → cond b (g *ℚ c) c ≡ cond b g one_ℚ *ℚ c
      by_need true g c = refl
      by_need false g c = ring_ℚ 1 (λ c. c ≐ 𝟙 ⊗ c) tt c

  -- the column that is basic in each position
  pub start_position : (p : ℕ) → p < row_count inst → basic (start_of inst) p ≡ start_basic inst p
  start_position p within = get-map-upto (start_basic inst) 0 (row_count inst) p within

  pub start_basis_entry : (i p : ℕ) → p < row_count inst → basis_entry inst (start_of inst) i p ≡ at_index i p (pivot_sign p)
  start_basis_entry i p within = ap (coefficient inst i) (start_position p within) ∙ by_need (is_needed inst p) refl
    where
      by_need : (b : Bool) → is_needed inst p ≡ b → coefficient inst i (start_basic inst p) ≡ at_index i p (pivot_sign p)
      by_need true e =
          ap (λ b. coefficient inst i (cond b (structural_count inst + row_count inst + p) (structural_count inst + p))) e ∙ coefficient-artificial i p
          ∙ ap (λ b. at_index i p (cond b (sign_past (passed_side inst p)) one_ℚ)) (sym e)
      by_need false e =
          ap (λ b. coefficient inst i (cond b (structural_count inst + row_count inst + p) (structural_count inst + p))) e ∙ coefficient-logical i p within
          ∙ ap (λ b. at_index i p (cond b (sign_past (passed_side inst p)) one_ℚ)) (sym e)

  -- a sign is its own inverse
  sign_squares : (o : Option Side) → sign_past o *ℚ sign_past o ≡ one_ℚ
  sign_squares None = ring_ℚ 0 (𝟙 ⊗ 𝟙 ≐ 𝟙) tt
  sign_squares (Some side.Lower) = ring_ℚ 0 ((⊝ 𝟙) ⊗ (⊝ 𝟙) ≐ 𝟙) tt
  sign_squares (Some side.Upper) = ring_ℚ 0 (𝟙 ⊗ 𝟙 ≐ 𝟙) tt

  pub square : (p : ℕ) → pivot_sign p *ℚ pivot_sign p ≡ one_ℚ
  square p = by_need (is_needed inst p) (sign_past (passed_side inst p)) (sign_squares (passed_side inst p))
    where
      by_need : (b : Bool) (g : ℚ) → g *ℚ g ≡ one_ℚ → cond b g one_ℚ *ℚ cond b g one_ℚ ≡ one_ℚ
      by_need true g h = h
      by_need false g h = ring_ℚ 0 (𝟙 ⊗ 𝟙 ≐ 𝟙) tt

  at_index-scaled : (i k : ℕ) (v : ℚ) → at_index i k v ≡ v *ℚ at_index i k one_ℚ
  at_index-scaled i k v = by_test (eqb i k)
    where
      by_test : (b : Bool) → cond b v zero_ℚ ≡ v *ℚ cond b one_ℚ zero_ℚ
      by_test true = ring_ℚ 1 (λ v. v ≐ v ⊗ 𝟙) tt v
      by_test false = ring_ℚ 1 (λ v. 𝟘 ≐ v ⊗ 𝟘) tt v

  logical_entry : (p k : ℕ) → k < row_count inst → start_entry inst p (structural_count inst + k) ≡ pivot_sign p *ℚ at_index p k one_ℚ
  logical_entry p k within = entry_is p (structural_count inst + k) ∙ ap (λ c. pivot_sign p *ℚ c) (coefficient-logical p k within)

  pub start_inverse : InvertsBasis inst (start_of inst) (logical_part inst (start_entry inst))
  start_inverse = record { right = right; left = left }
    where
      right : (i k : ℕ) → i < row_count inst → k < row_count inst
          → sum_ℚ (row_count inst) (λ p. basis_entry inst (start_of inst) i p *ℚ start_entry inst p (structural_count inst + k)) ≡ at_index i k one_ℚ
      right i k within also =
          sum-cong (row_count inst) _ _ (λ p b. ap₂ ◌*ℚ◌ (start_basis_entry i p b ∙ at_index-scaled i p (pivot_sign p)) (logical_entry p k also)
          ∙ ring_ℚ 3 (λ g u v. g ⊗ u ⊗ (g ⊗ v) ≐ u ⊗ (g ⊗ g ⊗ v)) tt (pivot_sign p) (at_index i p one_ℚ) (at_index p k one_ℚ))
          ∙ sum-unit (row_count inst) i (λ p. pivot_sign p *ℚ pivot_sign p *ℚ at_index p k one_ℚ) within
          ∙ ap (λ g. g *ℚ at_index i k one_ℚ) (square i) ∙ ring_ℚ 1 (λ v. 𝟙 ⊗ v ≐ v) tt (at_index i k one_ℚ)

      left : (p p' : ℕ) → p < row_count inst → p' < row_count inst
          → sum_ℚ (row_count inst) (λ i. start_entry inst p (structural_count inst + i) *ℚ basis_entry inst (start_of inst) i p') ≡ at_index p p' one_ℚ
      left p p' within also =
          sum-cong (row_count inst) _ _ (λ i b. ap₂ ◌*ℚ◌ (logical_entry p i b) (start_basis_entry i p' also)
          ∙ ring_ℚ 3 (λ g u v. g ⊗ u ⊗ v ≐ u ⊗ (g ⊗ v)) tt (pivot_sign p) (at_index p i one_ℚ) (at_index i p' (pivot_sign p')))
          ∙ sum-unit (row_count inst) p (λ i. pivot_sign p *ℚ at_index i p' (pivot_sign p')) within
          ∙ at_or_other (λ k. pivot_sign k *ℚ at_index k p' (pivot_sign p') ≡ at_index k p' one_ℚ) p' p
          (ap (λ v. pivot_sign p' *ℚ v) (at_index-same p' (pivot_sign p')) ∙ square p' ∙ sym (at_index-same p' one_ℚ))
          (λ other. ap (λ v. pivot_sign p *ℚ v) (at_index-other p p' (pivot_sign p') other) ∙ ring_ℚ 1 (λ g. g ⊗ 𝟘 ≐ 𝟘) tt (pivot_sign p) ∙ sym (at_index-other p p' one_ℚ other))

  pub start_entries : (p j : ℕ) → p < row_count inst → j < column_count inst
      → start_entry inst p j ≡ sum_ℚ (row_count inst) (λ i. logical_part inst (start_entry inst) p i *ℚ coefficient inst i j)
  start_entries p j within column =
      entry_is p j
      ∙ sym (sum-cong (row_count inst) _ _ (λ i b. ap (λ z. z *ℚ coefficient inst i j) (logical_entry p i b)
      ∙ ring_ℚ 3 (λ g u c. g ⊗ u ⊗ c ≐ u ⊗ (g ⊗ c)) tt (pivot_sign p) (at_index p i one_ℚ) (coefficient inst i j))
      ∙ sum-unit (row_count inst) p (λ i. pivot_sign p *ℚ coefficient inst i j) within)

  pub start_within : (p : ℕ) → p < row_count inst → basic (start_of inst) p < column_count inst
  start_within p within = subst (λ k. k < column_count inst) (sym (start_position p within)) (by_need (is_needed inst p))
    where
      by_need : (b : Bool) → cond b (structural_count inst + row_count inst + p) (structural_count inst + p) < column_count inst
      by_need true = omega arith
      by_need false = omega arith

  pub start_has_table : HasTable inst (start_of inst)
  start_has_table = record {
    table = start_entry inst;
    inverse = start_inverse;
    entries = start_entries;
    positions = length-map-upto (start_basic inst) (row_count inst);
    within = start_within;
  }

-- what holds of every structural, logical and artificial holds of every column
pub each_column : (inst : Instance) (P : ℕ → Type 0) → ((j : ℕ) → j < structural_count inst → P j) → ((i : ℕ) → i < row_count inst → P (structural_count inst + i))
    → ((i : ℕ) → i < row_count inst → P (structural_count inst + row_count inst + i)) → (j : ℕ) → j < column_count inst → P j
each_column inst P structural logical artificial j within = by_tests (ltb j (structural_count inst)) (ltb j (structural_count inst + row_count inst)) refl refl
  where
    by_tests : (a b : Bool) → ltb j (structural_count inst) ≡ a → ltb j (structural_count inst + row_count inst) ≡ b → P j
    by_tests true b e f = structural j (ltb-true j (structural_count inst) e)
    by_tests false true e f =
        let past : structural_count inst ≤ j = ltb-false j (structural_count inst) e in
        let below : j < structural_count inst + row_count inst = ltb-true j (structural_count inst + row_count inst) f in
        let same : structural_count inst + (j - structural_count inst) ≡ j = omega arith in
        subst P same (logical (j - structural_count inst) (omega arith))
    by_tests false false e f =
        let past : structural_count inst + row_count inst ≤ j = ltb-false j (structural_count inst + row_count inst) f in
        let same : structural_count inst + row_count inst + (j - structural_count inst - row_count inst) ≡ j = omega arith in
        subst P same (artificial (j - structural_count inst - row_count inst) (omega arith))
