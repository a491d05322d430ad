-- A row of a state's table is the row of the inverse of its basis matrix times the columns.
use Rattle.std.proofs.Common.{◌≡◌, ℕ, ◌+◌, ◌<◌, List, Option, Some, None, refl, sym, ◌∙◌, ap, subst, arith}
use Rattle.lp_model.specs.declared.Side.{Side}
use Rattle.lp_model.specs.declared.Side.TheVariants as side
use Rattle.rational.specs.Rational.{ℚ, zero_ℚ, one_ℚ, ◌*ℚ◌, neg_ℚ}
use Rattle.rational.specs.Sparse.{at_index}
use Rattle.rational.specs.Sum.{at, sum_ℚ}
use Rattle.rational.proofs.RationalRing.{ring_ℚ}
use Rattle.rational.proofs.Ring.{◌≐◌, ◌⊖◌, ◌⊗◌, ⊝◌, 𝟘, 𝟙}
use Rattle.rational.proofs.SparseLaws.{at_index-other, at_index-scaled}
use Rattle.rational.proofs.SumLaws.{at_or_other, sum-cong, sum-unit_right}
use Rattle.sparse_cols.specs.Sparse.{IsRising}
use Rattle.lp_run.specs.declared.ColumnKind.TheVariants as column
use Rattle.lp_run.specs.Instance.{Instance, IsWellFormed, coefficient, column_count, column_kind, kind_coefficient, passed_side, row_count, sign_past, structural, structural_count}
use Rattle.lp_run.specs.Solution.{IsTable, basis_entry, times_basis}
use Rattle.lp_run.specs.State.{State}
use Rattle.lp_run.specs.Tableau.{HasTable}
use Rattle.lp_run.proofs.Kept.{regular_from_table}
use Rattle.lp_run.proofs.Regularity.{one_table, same_rows, table_solves}
use Rattle.bland_ratio.proofs.Priced.{kind_within, rising_entries}
use Rattle.bland_ratio.specs.Pricing.{kind_entries}
use Rattle.factor_model.specs.Vectors.{entry, other_entry}
use Rattle.factor_model.proofs.LineLaws.{answer-gather, other-other}
use Rattle.factor_run.proofs.Bases.{entries_are}
use Rattle.ranging.specs.Causes.{IsRowOf, crossed}
use Rattle.ranging.specs.Inner.Solves.{entry_by, signed}

index_turned : (i k : ℕ) → at_index i k one_ℚ ≡ at_index k i one_ℚ
index_turned i k =
    at_or_other (λ i. at_index i k one_ℚ ≡ at_index k i one_ℚ) k i refl
    (λ other. at_index-other i k one_ℚ other ∙ sym (at_index-other k i one_ℚ (λ same. other (sym same))))

module _ (inst : Instance) (s : State) (has : HasTable inst s) (table : ℕ → ℕ → ℚ) (is_table : IsTable inst s table) where
  same : (p j : ℕ) → p < row_count inst → j < column_count inst → table p j ≡ has.table p j
  same = one_table inst s (regular_from_table inst s has) table has.table is_table (table_solves inst s has.table has.inverse has.entries)

  abbrev inverse_row : ℕ → ℕ → ℚ
  inverse_row p i = table p (structural_count inst + i)

  -- the entries of the logicals are the row of the inverse
  pub row_solves : (p : ℕ) → p < row_count inst → (k : ℕ) → k < row_count inst → times_basis inst s (λ i. table p (structural_count inst + i)) k ≡ at_index k p one_ℚ
  row_solves p b k c =
      sum-cong (row_count inst) _ _ (λ i e. ap (λ z. z *ℚ basis_entry inst s i k) (same p (structural_count inst + i) b (omega arith)))
      ∙ has.inverse.left p k b c ∙ index_turned p k

  pub row_makes : (p : ℕ) → p < row_count inst → (k : ℕ) → k < column_count inst
      → table p k ≡ sum_ℚ (row_count inst) (λ i. table p (structural_count inst + i) *ℚ coefficient inst i k)
  row_makes p b k c =
      same p k b c ∙ has.entries p k b c
      ∙ sym (sum-cong (row_count inst) _ _ (λ i e. ap (λ z. z *ℚ coefficient inst i k) (same p (structural_count inst + i) b (omega arith))))

  -- what solves as the row of the inverse is it
  pub row_read : (p : ℕ) → p < row_count inst → (ρ : List ℚ) → IsRowOf inst s p ρ → (i : ℕ) → i < row_count inst → at ρ i ≡ table p (structural_count inst + i)
  row_read p b ρ h i c =
      same_rows inst s (regular_from_table inst s has) (at ρ) (λ i. table p (structural_count inst + i)) (λ k e. h.solves k e ∙ sym (row_solves p b k e)) i c

  -- and its product with a column is the entry
  pub entry_read : (p : ℕ) → p < row_count inst → (ρ : List ℚ) → IsRowOf inst s p ρ → (k : ℕ) → k < column_count inst → entry_by inst ρ k ≡ table p k
  entry_read p b ρ h k c = sum-cong (row_count inst) _ _ (λ i e. ap (λ z. z *ℚ coefficient inst i k) (row_read p b ρ h i e)) ∙ sym (row_makes p b k c)

-- ── the product of a row with a column, as it is worked ──

module _ (inst : Instance) (ρ : List ℚ) (k : ℕ) (within : k < column_count inst) where
  pub structural_entry : IsWellFormed inst → (j : ℕ) → column.Structural j ≡ column_kind inst k → neg_ℚ (crossed inst ρ j).answer ≡ entry_by inst ρ k
  structural_entry formed j kind =
      let entries = (structural inst j).entries in
      ap neg_ℚ (answer-gather (row_count inst) 0 (row_count inst) ρ zero_ℚ entries (subst (λ c. IsRising (row_count inst) 0 (kind_entries inst c)) (sym kind) (rising_entries inst formed k within)))
      ∙ ring_ℚ 1 (λ a. ⊝ (𝟘 ⊖ a) ≐ a) tt (sum_ℚ (row_count inst) (λ i. other_entry (row_count inst) entries i *ℚ at ρ i))
      ∙ sum-cong (row_count inst) _ _ (λ i b. ap (λ e. e *ℚ at ρ i) (other-other (row_count inst) entries i (λ h. omega (arith, b, h)) ∙ there i)
      ∙ ring_ℚ 2 (λ a r. a ⊗ r ≐ r ⊗ a) tt (coefficient inst i k) (at ρ i))
    where
      there : (i : ℕ) → entry (structural inst j).entries i ≡ coefficient inst i k
      there i = ap (λ c. entry (kind_entries inst c) i) kind ∙ entries_are inst k i

  pub logical_entry : (i : ℕ) → column.Logical i ≡ column_kind inst k → at ρ i ≡ entry_by inst ρ k
  logical_entry i kind =
      sym (sum-cong (row_count inst) _ _ (λ r b. ap (λ z. at ρ r *ℚ z) (sym (ap (kind_coefficient inst r) kind)))
      ∙ sum-unit_right (row_count inst) i (at ρ) (kind_within inst k (column.Logical i) within kind))

  pub artificial_entry : (i : ℕ) → column.Artificial i ≡ column_kind inst k → sign_past (passed_side inst i) *ℚ at ρ i ≡ entry_by inst ρ k
  artificial_entry i kind =
      let sign = sign_past (passed_side inst i) in
      sym (sum-cong (row_count inst) _ _ (λ r b. ap (λ z. at ρ r *ℚ z) (sym (ap (kind_coefficient inst r) kind) ∙ at_index-scaled r i sign)
      ∙ ring_ℚ 3 (λ a s z. a ⊗ (s ⊗ z) ≐ (s ⊗ a) ⊗ z) tt (at ρ r) sign (at_index r i one_ℚ))
      ∙ sum-unit_right (row_count inst) i (λ r. sign *ℚ at ρ r) (kind_within inst k (column.Artificial i) within kind))

-- ── a number with the sign of an artificial ──

pub signed_is : (passed : Option Side) (x : ℚ) → signed passed x ≡ sign_past passed *ℚ x
signed_is None x = ring_ℚ 1 (λ x. x ≐ 𝟙 ⊗ x) tt x
signed_is (Some side.Lower) x = ring_ℚ 1 (λ x. ⊝ x ≐ ⊝ 𝟙 ⊗ x) tt x
signed_is (Some side.Upper) x = ring_ℚ 1 (λ x. x ≐ 𝟙 ⊗ x) tt x
