-- A matrix that has an inverse is regular, and a regular matrix takes no two vectors to one.
use Rattle.std.proofs.Common.{◌≡◌, ℕ, ◌<◌, sym, ◌∙◌, ap}
use Rattle.rational.specs.Rational.{ℚ, one_ℚ, ◌-ℚ◌, ◌*ℚ◌}
use Rattle.rational.specs.Sum.{sum_ℚ}
use Rattle.rational.specs.Sparse.{at_index}
use Rattle.rational.specs.Matrix.{IsInverse, IsRegular, matrix_times, times_matrix}
use Rattle.rational.proofs.FieldLaws.{equal_from_zero, zero_from_equal}
use Rattle.rational.proofs.RationalRing.{ring_ℚ, *ℚ_assoc}
use Rattle.rational.proofs.Ring.{◌≐◌, ◌⊖◌, ◌⊗◌, 𝟘}
use Rattle.rational.proofs.SumLaws.{sum-cong, sum-exchange, sum-none, sum-scale, sum-scale_right, sum-sub, sum-unit, sum-unit_right}

module _ (n : ℕ) (a b : ℕ → ℕ → ℚ) (h : IsInverse n a b) where
  -- what the matrix makes of a column gives the column back
  pub undo_columns : (v : ℕ → ℚ) (p : ℕ) → p < n → matrix_times n b (matrix_times n a v) p ≡ v p
  undo_columns v p within =
      sum-cong n (λ i. b p i *ℚ matrix_times n a v i) (λ i. sum_ℚ n (λ k. b p i *ℚ a i k *ℚ v k))
      (λ i c. sym (sum-scale n (b p i) (λ k. a i k *ℚ v k)) ∙ sum-cong n _ _ (λ k c. sym (*ℚ_assoc (b p i) (a i k) (v k))))
      ∙ sum-exchange n n (λ i k. b p i *ℚ a i k *ℚ v k)
      ∙ sum-cong n (λ k. sum_ℚ n (λ i. b p i *ℚ a i k *ℚ v k)) (λ k. at_index p k one_ℚ *ℚ v k)
      (λ k c. sum-scale_right n (λ i. b p i *ℚ a i k) (v k) ∙ ap (λ z. z *ℚ v k) (h.left p k within c))
      ∙ sum-unit n p v within

  -- what a row makes with the matrix gives the row back
  pub undo_rows : (y : ℕ → ℚ) (k : ℕ) → k < n → times_matrix n (times_matrix n y a) b k ≡ y k
  undo_rows y k within =
      sum-cong n (λ p. times_matrix n y a p *ℚ b p k) (λ p. sum_ℚ n (λ i. y i *ℚ (a i p *ℚ b p k)))
      (λ p c. sym (sum-scale_right n (λ i. y i *ℚ a i p) (b p k)) ∙ sum-cong n _ _ (λ i c. *ℚ_assoc (y i) (a i p) (b p k)))
      ∙ sum-exchange n n (λ p i. y i *ℚ (a i p *ℚ b p k))
      ∙ sum-cong n (λ i. sum_ℚ n (λ p. y i *ℚ (a i p *ℚ b p k))) (λ i. y i *ℚ at_index i k one_ℚ)
      (λ i c. sum-scale n (y i) (λ p. a i p *ℚ b p k) ∙ ap (λ z. y i *ℚ z) (h.right i k c within))
      ∙ sum-unit_right n k y within

  pub regular_from_inverse : IsRegular n a
  regular_from_inverse = record {
    columns = λ v zero_everywhere p within.
        sym (undo_columns v p within)
        ∙ sum-none n (λ i. b p i *ℚ matrix_times n a v i) (λ i c. ap (λ z. b p i *ℚ z) (zero_everywhere i c) ∙ ring_ℚ 1 (λ a. a ⊗ 𝟘 ≐ 𝟘) tt (b p i));
    rows = λ y zero_everywhere k within.
        sym (undo_rows y k within)
        ∙ sum-none n (λ p. times_matrix n y a p *ℚ b p k) (λ p c. ap (λ z. z *ℚ b p k) (zero_everywhere p c) ∙ ring_ℚ 1 (λ a. 𝟘 ⊗ a ≐ 𝟘) tt (b p k));
  }

less_column : (n : ℕ) (e v v' : ℕ → ℚ) → sum_ℚ n (λ p. e p *ℚ (v p -ℚ v' p)) ≡ sum_ℚ n (λ p. e p *ℚ v p) -ℚ sum_ℚ n (λ p. e p *ℚ v' p)
less_column n e v v' =
    sum-cong n _ _ (λ p c. ring_ℚ 3 (λ e v w. e ⊗ (v ⊖ w) ≐ e ⊗ v ⊖ e ⊗ w) tt (e p) (v p) (v' p))
    ∙ sum-sub n (λ p. e p *ℚ v p) (λ p. e p *ℚ v' p)

less_row : (n : ℕ) (e v v' : ℕ → ℚ) → sum_ℚ n (λ p. (v p -ℚ v' p) *ℚ e p) ≡ sum_ℚ n (λ p. v p *ℚ e p) -ℚ sum_ℚ n (λ p. v' p *ℚ e p)
less_row n e v v' =
    sum-cong n _ _ (λ p c. ring_ℚ 3 (λ e v w. (v ⊖ w) ⊗ e ≐ v ⊗ e ⊖ w ⊗ e) tt (e p) (v p) (v' p))
    ∙ sum-sub n (λ p. v p *ℚ e p) (λ p. v' p *ℚ e p)

module _ (n : ℕ) (a : ℕ → ℕ → ℚ) (regular : IsRegular n a) where
  -- two columns of which the matrix makes the same are the same
  pub same_columns : (v v' : ℕ → ℚ) → ((i : ℕ) → i < n → matrix_times n a v i ≡ matrix_times n a v' i) → (p : ℕ) → p < n → v p ≡ v' p
  same_columns v v' same p within =
      equal_from_zero (v p) (v' p) (regular.columns (λ k. v k -ℚ v' k) (λ i c. less_column n (a i) v v' ∙ zero_from_equal _ _ (same i c)) p within)

  pub same_rows : (y y' : ℕ → ℚ) → ((p : ℕ) → p < n → times_matrix n y a p ≡ times_matrix n y' a p) → (i : ℕ) → i < n → y i ≡ y' i
  same_rows y y' same i within =
      equal_from_zero (y i) (y' i) (regular.rows (λ k. y k -ℚ y' k) (λ p c. less_row n (λ k. a k p) y y' ∙ zero_from_equal _ _ (same p c)) i within)
