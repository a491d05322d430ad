-- What a step makes of the weight of the values: each grows by the step times the weight of the entering column less that of the basic columns which make it.
use Rattle.std.proofs.Common.{◌≡◌, ◌≢◌, ℕ, ◌<◌, List, length, ◌∙◌, ap, ap₂}
use Rattle.rational.specs.Rational.{ℚ, zero_ℚ, ◌+ℚ◌, ◌-ℚ◌, ◌*ℚ◌}
use Rattle.rational.proofs.RationalRing.{ring_ℚ, *ℚ_comm}
use Rattle.rational.proofs.Ring.{◌≐◌, ◌⊙◌≗◌⟹◌, ◌⊕◌, ◌⊖◌, ◌⊗◌, 𝟘, 𝟙}
use Rattle.rational.specs.Sum.{sum_ℚ, at}
use Rattle.rational.proofs.SumLaws.{sum-change, sum-change_two, sum-cong, sum-scale_right, sum-sub}
use Rattle.lp_run.specs.Instance.{Instance, coefficient, column_count, row_count}
use Rattle.lp_run.specs.Solution.{ColumnOf, Values}
use Rattle.lp_run.specs.State.{State, basic, rest}
use Rattle.bland_laws.proofs.Weights.{along, along_row, row_weight, weight}

-- values that all move at their rates
sum-moved : (m : ℕ) (e a b : ℕ → ℚ) (c : ℚ) → sum_ℚ m (λ k. e k *ℚ (a k -ℚ b k *ℚ c)) ≡ sum_ℚ m (λ k. e k *ℚ a k) -ℚ sum_ℚ m (λ k. e k *ℚ b k) *ℚ c
sum-moved m e a b c =
    sum-cong m _ _ (λ k h. ring_ℚ 4 (λ e a b c. e ⊗ (a ⊖ b ⊗ c) ≐ e ⊗ a ⊖ e ⊗ b ⊗ c) tt (e k) (a k) (b k) c)
    ∙ sum-sub m (λ k. e k *ℚ a k) (λ k. e k *ℚ b k *ℚ c)
    ∙ ap (λ z. sum_ℚ m (λ k. e k *ℚ a k) -ℚ z) (sum-scale_right m (λ k. e k *ℚ b k) c)

-- column q goes by c to another place at rest, and the basic values move against it
pub record Flipped (inst : Instance) (s s' : State) (β β' α : List ℚ) (q : ℕ) (c : ℚ) : Type 0 where
  pub column : q < column_count inst
  pub same_basis : (k : ℕ) → k < row_count inst → basic s' k ≡ basic s k
  pub moved : (k : ℕ) → k < row_count inst → at β' k ≡ at β k -ℚ at α k *ℚ c
  pub gone : rest inst s' q ≡ rest inst s q +ℚ c
  pub others : (j : ℕ) → j < column_count inst → j ≢ q → rest inst s' j ≡ rest inst s j

-- column q goes by c into position p, whose column stays where its value has come to
pub record Swapped (inst : Instance) (s s' : State) (β β' α : List ℚ) (q p : ℕ) (c : ℚ) : Type 0 where
  pub column : q < column_count inst
  pub position : p < row_count inst
  pub leaving : basic s p < column_count inst
  pub apart : basic s p ≢ q
  pub placed : basic s' p ≡ q
  pub kept : (k : ℕ) → k < row_count inst → k ≢ p → basic s' k ≡ basic s k
  pub moved : (k : ℕ) → k < row_count inst → k ≢ p → at β' k ≡ at β k -ℚ at α k *ℚ c
  pub entered : at β' p ≡ rest inst s q +ℚ c
  pub left_at : rest inst s' (basic s p) ≡ at β p -ℚ at α p *ℚ c
  pub was_basic : rest inst s (basic s p) ≡ zero_ℚ
  pub is_basic : rest inst s' q ≡ zero_ℚ
  pub others : (j : ℕ) → j < column_count inst → j ≢ basic s p → j ≢ q → rest inst s' j ≡ rest inst s j

pub flipped_weight : (inst : Instance) (s s' : State) (β β' α : List ℚ) (q : ℕ) (c : ℚ) → Flipped inst s s' β β' α q c → (w : ℕ → ℚ)
    → weight inst s' β' w ≡ weight inst s β w +ℚ c *ℚ along inst s q α w
flipped_weight inst s s' β β' α q c f w =
    let m = row_count inst in
    let n = column_count inst in
    ap₂ ◌+ℚ◌
    (sum-cong m _ _ (λ k b. ap₂ (λ j v. w j *ℚ v) (f.same_basis k b) (f.moved k b)) ∙ sum-moved m (λ k. w (basic s k)) (at β) (at α) c)
    (sum-change n q (λ j. w j *ℚ rest inst s j) (λ j. w j *ℚ rest inst s' j) f.column (λ j b other. ap (λ v. w j *ℚ v) (f.others j b other))
    ∙ ap (λ v. sum_ℚ n (λ j. w j *ℚ rest inst s j) +ℚ (w q *ℚ v -ℚ w q *ℚ rest inst s q)) f.gone)
    ∙ ring_ℚ 6 (λ a b c r w x. (a ⊖ b ⊗ c) ⊕ (r ⊕ (w ⊗ (x ⊕ c) ⊖ w ⊗ x)) ≐ (a ⊕ r) ⊕ c ⊗ (w ⊖ b)) tt
    (sum_ℚ m (λ k. w (basic s k) *ℚ at β k)) (sum_ℚ m (λ k. w (basic s k) *ℚ at α k)) c (sum_ℚ n (λ j. w j *ℚ rest inst s j)) (w q) (rest inst s q)

module _ (inst : Instance) (s s' : State) (β β' α : List ℚ) (q p : ℕ) (c : ℚ) (f : Swapped inst s s' β β' α q p c) (w : ℕ → ℚ) where
  abbrev basics : ℚ
  basics = sum_ℚ (row_count inst) (λ k. w (basic s k) *ℚ at β k)

  abbrev makes : ℚ
  makes = sum_ℚ (row_count inst) (λ k. w (basic s k) *ℚ at α k)

  abbrev rests : ℚ
  rests = sum_ℚ (column_count inst) (λ j. w j *ℚ rest inst s j)

  abbrev end : ℚ
  end = at β p -ℚ at α p *ℚ c

  by_positions : sum_ℚ (row_count inst) (λ k. w (basic s' k) *ℚ at β' k) ≡ basics -ℚ makes *ℚ c +ℚ (w q *ℚ (rest inst s q +ℚ c) -ℚ w (basic s p) *ℚ end)
  by_positions =
      sum-change (row_count inst) p (λ k. w (basic s k) *ℚ (at β k -ℚ at α k *ℚ c)) (λ k. w (basic s' k) *ℚ at β' k) f.position
      (λ k b other. ap₂ (λ j v. w j *ℚ v) (f.kept k b other) (f.moved k b other))
      ∙ ap₂ (λ a b. a +ℚ (b -ℚ w (basic s p) *ℚ end)) (sum-moved (row_count inst) (λ k. w (basic s k)) (at β) (at α) c)
      (ap₂ (λ j v. w j *ℚ v) f.placed f.entered)

  by_columns : sum_ℚ (column_count inst) (λ j. w j *ℚ rest inst s' j)
      ≡ rests +ℚ (w (basic s p) *ℚ end -ℚ w (basic s p) *ℚ zero_ℚ) +ℚ (w q *ℚ zero_ℚ -ℚ w q *ℚ rest inst s q)
  by_columns =
      sum-change_two (column_count inst) (basic s p) q (λ j. w j *ℚ rest inst s j) (λ j. w j *ℚ rest inst s' j) f.leaving f.column f.apart
      (λ j b d e. ap (λ v. w j *ℚ v) (f.others j b d e))
      ∙ ap₂ (λ u v. rests +ℚ (w (basic s p) *ℚ u -ℚ w (basic s p) *ℚ v) +ℚ (w q *ℚ rest inst s' q -ℚ w q *ℚ rest inst s q)) f.left_at f.was_basic
      ∙ ap (λ u. rests +ℚ (w (basic s p) *ℚ end -ℚ w (basic s p) *ℚ zero_ℚ) +ℚ (w q *ℚ u -ℚ w q *ℚ rest inst s q)) f.is_basic

  pub swapped_weight : weight inst s' β' w ≡ weight inst s β w +ℚ c *ℚ along inst s q α w
  swapped_weight =
      ap₂ ◌+ℚ◌ by_positions by_columns
      ∙ ring_ℚ 8 (λ a b c r w x v e. a ⊖ b ⊗ c ⊕ (w ⊗ (x ⊕ c) ⊖ v ⊗ e) ⊕ (r ⊕ (v ⊗ e ⊖ v ⊗ 𝟘) ⊕ (w ⊗ 𝟘 ⊖ w ⊗ x)) ≐ (a ⊕ r) ⊕ c ⊗ (w ⊖ b)) tt
      basics makes c rests (w q) (rest inst s q) (w (basic s p)) end

-- numbers that make every right side are the values
pub values_from_rows : (inst : Instance) (s : State) (β : List ℚ) → length β ≡ row_count inst
    → ((i : ℕ) → i < row_count inst → weight inst s β (coefficient inst i) ≡ at inst.right i) → Values inst s β
values_from_rows inst s β each rows = record {
  one_each = each;
  solves = λ i b. ring_ℚ 3 (λ a c r. 𝟙 ⊙ a ⊕ c ≗ r ⟹ a ≐ r ⊖ c) tt
      (sum_ℚ (row_count inst) (λ p. coefficient inst i (basic s p) *ℚ at β p)) (sum_ℚ (column_count inst) (λ j. rest inst s j *ℚ coefficient inst i j))
      (at inst.right i)
      (ap (λ z. sum_ℚ (row_count inst) (λ p. coefficient inst i (basic s p) *ℚ at β p) +ℚ z) (sum-cong (column_count inst) _ _
      (λ j c. *ℚ_comm (rest inst s j) (coefficient inst i j))) ∙ rows i b);
}

-- a step along a column keeps the equations
pub values_moved : (inst : Instance) (s s' : State) (β β' α : List ℚ) (q : ℕ) (c : ℚ) → length β' ≡ row_count inst → Values inst s β → ColumnOf inst s q α
    → ((w : ℕ → ℚ) → weight inst s' β' w ≡ weight inst s β w +ℚ c *ℚ along inst s q α w) → Values inst s' β'
values_moved inst s s' β β' α q c each values column moves =
    values_from_rows inst s' β' each
    (λ i b. moves (coefficient inst i) ∙ ap₂ (λ a z. a +ℚ c *ℚ z) (row_weight inst s β values i b) (along_row inst s q α column i b)
    ∙ ring_ℚ 2 (λ a c. a ⊕ c ⊗ 𝟘 ≐ a) tt (at inst.right i) c)
