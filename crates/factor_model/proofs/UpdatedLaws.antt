-- An update follows the exchange of a column, and the item of the new column's solution says whether it can.
use Rattle.std.proofs.Common.{◌≡◌, ◌≢◌, ℕ, ◌+◌, ◌<◌, List, length, refl, sym, ◌∙◌, ap, subst}
use Rattle.rational.specs.Rational.{ℚ, zero_ℚ, ◌*ℚ◌}
use Rattle.rational.specs.Matrix.{matrix_times}
use Rattle.rational.specs.Sum.{at, sum_ℚ}
use Rattle.rational.specs.Worked.{done}
use Rattle.rational.proofs.AnswerLaws.{answer-bind, answer-done}
use Rattle.rational.proofs.VectorLaws.{get-map-upto, length-map-upto}
use Rattle.factor_model.specs.Vectors.{vector}
use Rattle.factor_model.specs.Eta.{apply}
use Rattle.factor_model.specs.Upper.{cell, solve}
use Rattle.factor_model.specs.Update.{HasPivot, update, with_column}
use Rattle.factor_model.specs.Factors.{Factors, AreFactors, updated, with_update}
use Rattle.factor_model.proofs.EtaLaws.{length-apply}
use Rattle.factor_model.proofs.UpperLaws.{solves_row}
use Rattle.factor_model.proofs.UpdateLaws.{pivot-nonzero, update-represents}
use Rattle.factor_model.proofs.FactorLaws.{forward-solves}

module _ (f : Factors) (b : ℕ → ℕ → ℚ) (a : ℕ → ℚ) (p : ℕ) where
  updated-is : (spike : List ℚ) → (updated f p spike).answer ≡ with_update f p spike (update f.upper p spike).answer
  updated-is spike = answer-bind (update f.upper p spike) (λ e. done (with_update f p spike e)) ∙ answer-done (with_update f p spike (update f.upper p spike).answer)

  pub updated-count : (spike : List ℚ) → (updated f p spike).answer.updates ≡ f.updates + 1
  updated-count spike = ap (λ (g : Factors). g.updates) (updated-is spike)

  at_rows : AreFactors (length f.upper.rows) f b → p < length f.upper.rows → HasPivot f.upper p (apply (vector (length f.upper.rows) a) f.etas).answer
      → AreFactors (length f.upper.rows) (updated f p (apply (vector (length f.upper.rows) a) f.etas).answer).answer (with_column b p a)
  at_rows factors lt pivot =
      let n = length f.upper.rows in
      let spike = (apply (vector n a) f.etas).answer in
      let len : length spike ≡ n = length-apply (vector n a) f.etas ∙ length-map-upto a n in
      subst (λ (g : Factors). AreFactors n g (with_column b p a)) (sym (updated-is spike))
      (update-represents f.upper factors.upper p lt spike len f.etas b factors a refl (pivot-nonzero f.upper factors.upper p lt spike len pivot.0 pivot.1 pivot.2))

  -- the updated factors are factors of the matrix with the new column
  pub updated-represents : (n : ℕ) → AreFactors n f b → p < n → HasPivot f.upper p (apply (vector n a) f.etas).answer
      → AreFactors n (updated f p (apply (vector n a) f.etas).answer).answer (with_column b p a)
  updated-represents n factors =
      subst (λ m. AreFactors m f b → p < m → HasPivot f.upper p (apply (vector m a) f.etas).answer
      → AreFactors m (updated f p (apply (vector m a) f.etas).answer).answer (with_column b p a))
      factors.upper.row_count at_rows factors

  -- the form's solution for the spike solves for the column
  pub spike-solves : (n : ℕ) → AreFactors n f b → (i : ℕ) → i < n → matrix_times n b (at (solve f.upper (apply (vector n a) f.etas).answer).answer) i ≡ a i
  spike-solves n factors i lt =
      let spike = (apply (vector n a) f.etas).answer in
      let len : length spike ≡ n = length-apply (vector n a) f.etas ∙ length-map-upto a n in
      forward-solves n f.etas f.upper b factors (vector n a) (solve f.upper spike).answer (length-map-upto a n) (solves_row n f.upper factors.upper spike len) i lt
      ∙ get-map-upto a zero_ℚ n i lt

  -- and there is a pivot where its item in the position is not 0
  pub pivot-of : (n : ℕ) → AreFactors n f b → at (solve f.upper (apply (vector n a) f.etas).answer).answer p ≢ zero_ℚ → HasPivot f.upper p (apply (vector n a) f.etas).answer
  pivot-of n factors some =
      let spike = (apply (vector n a) f.etas).answer in
      let len : length spike ≡ n = length-apply (vector n a) f.etas ∙ length-map-upto a n in
      let x = (solve f.upper spike).answer in (
        x,
        subst (λ m. (r : ℕ) → r < m → sum_ℚ m (λ q. cell f.upper r q *ℚ at x q) ≡ at spike r) (sym factors.upper.row_count) (solves_row n f.upper factors.upper spike len),
        some,
      )
