-- A tableau stays one where its table and its reduced costs give way to others that are equal at each position and column.
use Rattle.std.proofs.Common.{◌≡◌, ℕ, ◌+◌, ◌<◌, List, sym, ◌∙◌, ap, arith}
use Rattle.rational.specs.Rational.{ℚ, ◌-ℚ◌, ◌*ℚ◌}
use Rattle.rational.proofs.SumLaws.{sum-cong}
use Rattle.lp_run.specs.Instance.{Instance, coefficient, column_count, cost, row_count, structural_count}
use Rattle.lp_run.specs.Solution.{basis_entry}
use Rattle.lp_run.specs.State.{State, basic}
use Rattle.lp_run.specs.Tableau.{InvertsBasis, IsTableau, logical_part, table_cost}

module _ (inst : Instance) (s : State) (table table' : ℕ → ℕ → ℚ) (same : (p j : ℕ) → p < row_count inst → j < column_count inst → table' p j ≡ table p j) where
  same_part : (p i : ℕ) → p < row_count inst → i < row_count inst → logical_part inst table' p i ≡ logical_part inst table p i
  same_part p i b c = same p (structural_count inst + i) b (omega arith)

  same_inverse : InvertsBasis inst s (logical_part inst table) → InvertsBasis inst s (logical_part inst table')
  same_inverse h = record {
    right = λ i k b c. sum-cong (row_count inst) _ _ (λ p e. ap (λ z. basis_entry inst s i p *ℚ z) (same_part p k e c)) ∙ h.right i k b c;
    left = λ p p' b c. sum-cong (row_count inst) _ _ (λ i e. ap (λ z. z *ℚ basis_entry inst s i p') (same_part p i b e)) ∙ h.left p p' b c;
  }

  same_priced : (j : ℕ) → j < column_count inst → table_cost inst s table' j ≡ table_cost inst s table j
  same_priced j c = ap (λ z. cost inst s.phase j -ℚ z) (sum-cong (row_count inst) _ _ (λ p e. ap (λ z. cost inst s.phase (basic s p) *ℚ z) (same p j e c)))

  pub same_tableau : (β : List ℚ) (d d' : ℕ → ℚ) → ((j : ℕ) → j < column_count inst → d' j ≡ d j) → IsTableau inst s table β d → IsTableau inst s table' β d'
  same_tableau β d d' costs h = record {
    inverse = same_inverse h.inverse;
    entries = λ p j b c. same p j b c ∙ h.entries p j b c ∙ sym (sum-cong (row_count inst) _ _ (λ i e. ap (λ z. z *ℚ coefficient inst i j) (same_part p i b e)));
    values = h.values;
    costs = λ j c. costs j c ∙ h.costs j c ∙ sym (same_priced j c);
  }
