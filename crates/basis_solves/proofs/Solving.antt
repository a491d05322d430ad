-- What is solved for at a state: the costs of its basic columns, and a column of the equations.
use Rattle.std.proofs.Common.{◌≡◌, ℕ, ◌<◌, List, length, sym, ◌∙◌, ap, ap₂, subst}
use Rattle.lp_model.specs.declared.Phase.{Phase}
use Rattle.rational.specs.Rational.{ℚ}
use Rattle.rational.specs.Sum.{at}
use Rattle.rational.proofs.VectorLaws.{list_of}
use Rattle.sparse_cols.specs.Sparse.{Sparse}
use Rattle.lp_run.specs.Instance.{Instance, column_kind, cost, row_count}
use Rattle.lp_run.specs.Solution.{ColumnOf, basis_entry}
use Rattle.lp_run.specs.State.{State, basic}
use Rattle.bland_ratio.specs.Pricing.{kind_entries}
use Rattle.factor_model.specs.Factors.{IsSolution}
use Rattle.factor_model.specs.Vectors.{entry, vector}
use Rattle.factor_run.specs.Built.{entering_column}
use Rattle.factor_run.specs.Calm.{basic_costs}
use Rattle.factor_run.proofs.Bases.{column_is, solved_column}

pub costs_are : (inst : Instance) (s : State) (phase : Phase) → phase ≡ s.phase → (out : List ℚ) → length out ≡ row_count inst → length s.basis ≡ row_count inst
    → ((p : ℕ) → p < length s.basis → at out p ≡ cost inst phase (basic s p)) → out ≡ basic_costs inst s
costs_are inst s phase there out each positions costs =
    list_of (λ p. cost inst s.phase (basic s p)) (row_count inst) out each
    (λ p b. costs p (subst (λ n. p < n) (sym positions) b) ∙ ap (λ phase. cost inst phase (basic s p)) there)

module _ (inst : Instance) (q n : ℕ) (column : Sparse ℚ) (size : n ≡ row_count inst) (is : column ≡ record { length = row_count inst; pairs = kind_entries inst (column_kind inst q) }) where
  pub vector_there : vector n (entry column.pairs) ≡ entering_column inst q
  vector_there = ap₂ (λ n (c : Sparse ℚ). vector n (entry c.pairs)) size is ∙ column_is inst q

  pub column_there : (s : State) (x : List ℚ) → length x ≡ row_count inst → IsSolution n (basis_entry inst s) (entry column.pairs) x → ColumnOf inst s q x
  column_there s x each h =
      solved_column inst s q x each
      (subst (λ (c : Sparse ℚ). IsSolution (row_count inst) (basis_entry inst s) (entry c.pairs) x) is (subst (λ n. IsSolution n (basis_entry inst s) (entry column.pairs) x) size h))
