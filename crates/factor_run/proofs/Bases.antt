-- What factors solve for at a state, and of which basis they are after an entry.
use Rattle.std.proofs.Common.{◌≡◌, ℕ, ◌<◌, List, [], ◌∷◌, length, cond, eqb, eq-eqb, ne_eqb, get_or-set_same, get_or-set_other, Bool, true, false, Option, Some, refl, sym, ◌∙◌, ap, subst}
use Rattle.lp_model.specs.declared.Entry.TheVariants.{Swap}
use Rattle.lp_model.specs.declared.Side.{Side}
use Rattle.rational.specs.Rational.{ℚ, zero_ℚ}
use Rattle.rational.specs.Sparse.{entry_at}
use Rattle.rational.specs.Sum.{at}
use Rattle.rational.proofs.SumLaws.{at_or_other}
use Rattle.rational.proofs.VectorLaws.{get-map-upto, length-map-upto, same_vectors}
use Rattle.lp_run.specs.Instance.{Instance, coefficient, column_kind, cost, row_count}
use Rattle.lp_run.specs.Solution.{ColumnOf, Prices, basis_entry}
use Rattle.lp_run.specs.State.{State, after, basic}
use Rattle.bland_ratio.specs.Pricing.{kind_entries}
use Rattle.bland_ratio.proofs.Priced.{coefficient_entry}
use Rattle.factor_model.specs.Factors.{AreFactors, Factors, IsRowSolution, IsSolution}
use Rattle.factor_model.specs.Update.{with_column}
use Rattle.factor_model.specs.Vectors.{entry, or_zero, vector}
use Rattle.factor_model.proofs.FactoredSame.{represents-same}
use Rattle.sparse_cols.specs.Sparse.{value_at}
use Rattle.factor_run.specs.Built.{entering_column}
use Rattle.factor_run.specs.Calm.{basic_costs}

-- a vector is given by its items
pub same_vector : (n : ℕ) (f g : ℕ → ℚ) → ((i : ℕ) → i < n → f i ≡ g i) → vector n f ≡ vector n g
same_vector n f g same =
    same_vectors (vector n f) (vector n g) n (length-map-upto f n) (length-map-upto g n)
    (λ i b. get-map-upto f zero_ℚ n i b ∙ same i b ∙ sym (get-map-upto g zero_ℚ n i b))

-- ── the columns of the equations ──

by_test : (t : Bool) (k i : ℕ) (v a : ℚ) (rest : Option ℚ) → eqb k i ≡ t → a ≡ or_zero rest → cond (eqb k i) v a ≡ or_zero (cond (eqb k i) (Some v) rest)
by_test true k i v a rest e same = ap (λ t. cond t v a) e ∙ sym (ap (λ t. or_zero (cond t (Some v) rest)) e)
by_test false k i v a rest e same = ap (λ t. cond t v a) e ∙ same ∙ sym (ap (λ t. or_zero (cond t (Some v) rest)) e)

entry_is : (pairs : List (ℕ × ℚ)) (i : ℕ) → entry_at pairs i ≡ entry pairs i
entry_is [] i = refl
entry_is ((k, v) ∷ pairs) i = by_test (eqb k i) k i v (entry_at pairs i) (value_at pairs i) refl (entry_is pairs i)

module _ (inst : Instance) where
  -- the stored entries of a column are those of the equations
  pub entries_are : (q i : ℕ) → entry (kind_entries inst (column_kind inst q)) i ≡ coefficient inst i q
  entries_are q i = sym (coefficient_entry inst i (column_kind inst q) ∙ entry_is (kind_entries inst (column_kind inst q)) i)

  pub column_is : (q : ℕ) → vector (row_count inst) (entry (kind_entries inst (column_kind inst q))) ≡ entering_column inst q
  column_is q = same_vector (row_count inst) (entry (kind_entries inst (column_kind inst q))) (λ i. coefficient inst i q) (λ i b. entries_are q i)

  module _ (s : State) where
    pub solved_column : (q : ℕ) (x : List ℚ) → length x ≡ row_count inst → IsSolution (row_count inst) (basis_entry inst s) (entry (kind_entries inst (column_kind inst q))) x → ColumnOf inst s q x
    solved_column q x each h = record { one_each = each; solves = λ i b. h i b ∙ entries_are q i }

    pub solved_prices : (c y : List ℚ) → length y ≡ row_count inst → c ≡ basic_costs inst s → IsRowSolution (row_count inst) (basis_entry inst s) (at c) y → Prices inst s y
    solved_prices c y each is h = record {
      one_each = each;
      solves = λ p b. h p b ∙ ap (λ c. at c p) is ∙ get-map-upto (λ p. cost inst s.phase (basic s p)) zero_ℚ (row_count inst) p b;
    }

    -- where column q takes position p, the basis has it there
    pub exchanged_entry : (q p : ℕ) (end : Side) → length s.basis ≡ row_count inst → p < row_count inst → (i k : ℕ)
        → with_column (basis_entry inst s) p (entry (kind_entries inst (column_kind inst q))) i k ≡ basis_entry inst (after s (Swap q p end)) i k
    exchanged_entry q p end positions within i k =
        at_or_other (λ k. with_column (basis_entry inst s) p (entry (kind_entries inst (column_kind inst q))) i k ≡ basis_entry inst (after s (Swap q p end)) i k) p k
        (ap (λ t. cond t (entry (kind_entries inst (column_kind inst q)) i) (basis_entry inst s i p)) (eq-eqb p p refl)
        ∙ entries_are q i ∙ ap (coefficient inst i) (sym (get_or-set_same s.basis p q 0 (subst (λ n. p < n) (sym positions) within))))
        (λ other. ap (λ t. cond t (entry (kind_entries inst (column_kind inst q)) i) (basis_entry inst s i k)) (ne_eqb k p other)
        ∙ ap (coefficient inst i) (sym (get_or-set_other s.basis p k q 0 other)))

    -- factors of the basis with that column in the position are factors of the basis after the swap
    pub swapped_factors : (q p : ℕ) (end : Side) → length s.basis ≡ row_count inst → p < row_count inst → (g : Factors)
        → AreFactors (row_count inst) g (with_column (basis_entry inst s) p (entry (kind_entries inst (column_kind inst q)))) → AreFactors (row_count inst) g (basis_entry inst (after s (Swap q p end)))
    swapped_factors q p end positions within g h =
        represents-same (row_count inst) (with_column (basis_entry inst s) p (entry (kind_entries inst (column_kind inst q)))) (basis_entry inst (after s (Swap q p end)))
        (λ i k i_lt k_lt. exchanged_entry q p end positions within i k) g.etas g.upper h
