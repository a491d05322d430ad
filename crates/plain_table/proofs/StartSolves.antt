-- The basic values at the start solve the equations of the rows.
use Rattle.std.proofs.Common.{◌≡◌, ℕ, ◌+◌, ◌<◌, map, Bool, true, false, Option, Some, None, is_some, refl, ◌∙◌, ap, ap₂, cond, eqb}
use Rattle.lp_model.specs.declared.Phase.{Phase}
use Rattle.lp_model.specs.declared.Phase.TheVariants.{One, Two}
use Rattle.lp_model.specs.declared.Side.{Side}
use Rattle.lp_model.specs.Deck.{between, nonnegative}
use Rattle.rational.specs.Rational.{ℚ, zero_ℚ, one_ℚ, ◌+ℚ◌, ◌-ℚ◌, ◌*ℚ◌}
use Rattle.rational.specs.Sparse.{at_index, entry_at, upto}
use Rattle.rational.specs.Sum.{at, sum_ℚ}
use Rattle.rational.proofs.RationalRing.{ring_ℚ}
use Rattle.rational.proofs.Ring.{◌≐◌, ◌⊕◌, ◌⊖◌, ◌⊗◌, 𝟘, 𝟙}
use Rattle.rational.proofs.SumLaws.{sum-cong, sum-none, sum-split, sum-unit}
use Rattle.rational.proofs.VectorLaws.{get-map-upto, length-map-upto}
use Rattle.lp_run.specs.declared.ColumnKind.TheVariants as column
use Rattle.lp_run.specs.Instance.{Instance, IsWellFormed, bounds, coefficient, column_count, kind_bounds, kind_coefficient, passed_side, residual, row_count, start_value, structural, structural_count}
use Rattle.lp_run.specs.State.{State, artificial_start, basic, rest, resting_value, start_of}
use Rattle.lp_run.specs.Solution.{Values}
use Rattle.lp_run.proofs.Start.{coefficient-logical, kind_of_artificial, kind_of_structural, pivot_sign, square, start_basis_entry}
use Rattle.lp_run.proofs.StartStatuses.{start_artificial, start_structural}
use Rattle.bland_laws.proofs.Shifted.{values_from_rows}
use Rattle.bland_laws.proofs.Starting.{starts_at}
use Rattle.plain_table.specs.Inner.Starts.{basic_start, logical_rest}

module _ (inst : Instance) (h : IsWellFormed inst) where
  abbrev start : State
  start = start_of inst

  abbrev n : ℕ
  n = structural_count inst

  abbrev m : ℕ
  m = row_count inst

  structural_bounds_are : (j : ℕ) → j < n → (phase : Phase) → bounds inst phase j ≡ (structural inst j).bounds
  structural_bounds_are j b phase = ap (kind_bounds inst phase) (kind_of_structural inst j b) ∙ by_phase phase
    where
      by_phase : (phase : Phase) → kind_bounds inst phase (column.Structural j) ≡ (structural inst j).bounds
      by_phase One = refl
      by_phase Two = refl

  structural_rests : (j : ℕ) → j < n → rest inst start j ≡ start_value (structural inst j).bounds
  structural_rests j b = ap₂ resting_value (start_structural inst h.sides j b) (structural_bounds_are j b start.phase) ∙ starts_at (structural inst j).bounds

  artificial_rests : (i : ℕ) → i < m → rest inst start (n + m + i) ≡ zero_ℚ
  artificial_rests i b =
      ap₂ resting_value (start_artificial inst h.sides i b) (ap (kind_bounds inst start.phase) (kind_of_artificial inst i)) ∙ by_side (passed_side inst i) refl start.phase
    where
      by_side : (o : Option Side) → passed_side inst i ≡ o → (phase : Phase) → resting_value (artificial_start (passed_side inst i)) (kind_bounds inst phase (column.Artificial i)) ≡ zero_ℚ
      by_side (Some r) e phase = ap (λ o. resting_value (artificial_start o) (kind_bounds inst phase (column.Artificial i))) e
      by_side None e One = ap (λ o. resting_value (artificial_start o) (cond (is_some o) nonnegative (between zero_ℚ zero_ℚ))) e
      by_side None e Two = ap (λ o. resting_value (artificial_start o) (between zero_ℚ zero_ℚ)) e

  -- ── the sums of the rows ──

  scaled_unit : (i k : ℕ) (v : ℚ) → at_index i k v ≡ at_index i k one_ℚ *ℚ v
  scaled_unit i k v = by_test (eqb i k)
    where
      by_test : (b : Bool) → cond b v zero_ℚ ≡ cond b one_ℚ zero_ℚ *ℚ v
      by_test true = ring_ℚ 1 (λ v. v ≐ 𝟙 ⊗ v) tt v
      by_test false = ring_ℚ 1 (λ v. 𝟘 ≐ 𝟘 ⊗ v) tt v

  basics_make : (i : ℕ) → i < m → sum_ℚ m (λ p. coefficient inst i (basic start p) *ℚ at (map (basic_start inst) (upto m)) p) ≡ residual inst i -ℚ logical_rest inst i
  basics_make i b =
      sum-cong m _ _ (λ p c. ap₂ ◌*ℚ◌ (start_basis_entry inst i p c ∙ scaled_unit i p (pivot_sign inst p)) (get-map-upto (basic_start inst) zero_ℚ m p c)
      ∙ ring_ℚ 3 (λ u g x. u ⊗ g ⊗ (g ⊗ x) ≐ u ⊗ (g ⊗ g ⊗ x)) tt (at_index i p one_ℚ) (pivot_sign inst p) (residual inst p -ℚ logical_rest inst p))
      ∙ sum-unit m i (λ p. pivot_sign inst p *ℚ pivot_sign inst p *ℚ (residual inst p -ℚ logical_rest inst p)) b
      ∙ ap (λ g. g *ℚ (residual inst i -ℚ logical_rest inst i)) (square inst i) ∙ ring_ℚ 1 (λ v. 𝟙 ⊗ v ≐ v) tt (residual inst i -ℚ logical_rest inst i)

  abbrev structurals_make : ℕ → ℚ
  structurals_make i = sum_ℚ n (λ j. entry_at (structural inst j).entries i *ℚ start_value (structural inst j).bounds)

  rests_make : (i : ℕ) → i < m → sum_ℚ (column_count inst) (λ j. coefficient inst i j *ℚ rest inst start j) ≡ structurals_make i +ℚ logical_rest inst i
  rests_make i b =
      sum-split (n + m) m (λ j. coefficient inst i j *ℚ rest inst start j)
      ∙ ap₂ ◌+ℚ◌ (sum-split n m (λ j. coefficient inst i j *ℚ rest inst start j)
      ∙ ap₂ ◌+ℚ◌ (sum-cong n _ _ (λ j c. ap₂ ◌*ℚ◌ (ap (kind_coefficient inst i) (kind_of_structural inst j c)) (structural_rests j c)))
      (sum-cong m _ _ (λ k c. ap (λ z. z *ℚ rest inst start (n + k)) (coefficient-logical inst i k c)) ∙ sum-unit m i (λ k. rest inst start (n + k)) b))
      (sum-none m _ (λ k c. ap (λ z. coefficient inst i (n + m + k) *ℚ z) (artificial_rests k c)
      ∙ ring_ℚ 1 (λ v. v ⊗ 𝟘 ≐ 𝟘) tt (coefficient inst i (n + m + k))))
      ∙ ring_ℚ 2 (λ a b. a ⊕ b ⊕ 𝟘 ≐ a ⊕ b) tt (structurals_make i) (logical_rest inst i)

  pub values_solve : Values inst (start_of inst) (map (basic_start inst) (upto (row_count inst)))
  values_solve = values_from_rows inst start (map (basic_start inst) (upto m)) (length-map-upto (basic_start inst) m)
      (λ i b. ap₂ ◌+ℚ◌ (basics_make i b) (rests_make i b)
      ∙ ring_ℚ 3 (λ r a x. r ⊖ a ⊖ x ⊕ (a ⊕ x) ≐ r) tt (at inst.right i) (structurals_make i) (logical_rest inst i))
