-- Two instances that have the same rows and columns but for costs and right sides: what they have in common at a state.
use Rattle.std.proofs.Common.{◌≡◌, ◌≢◌, ℕ, ◌+◌, ◌-◌, ◌<◌, List, get_or, cond, Option, None, refl, sym, ◌∙◌, ap, ap₂, subst, get_or-set_other, get_or-set_same, length-set}
use Rattle.std.specs.Prelude.{nat_lt, if◌then◌else◌}
use Rattle.lp_model.specs.declared.Phase.{Phase}
use Rattle.lp_model.specs.declared.Phase.TheVariants.{One, Two}
use Rattle.lp_model.specs.declared.Side.{Side}
use Rattle.lp_model.specs.Deck.{between, nonnegative}
use Rattle.lp_run.specs.declared.ColumnKind.{ColumnKind}
use Rattle.lp_run.specs.declared.ColumnKind.TheVariants as column
use Rattle.rational.specs.Rational.{ℚ, zero_ℚ, ◌+ℚ◌, ◌*ℚ◌}
use Rattle.rational.specs.Sparse.{at_index, entry_at}
use Rattle.rational.specs.Sum.{sum_ℚ}
use Rattle.rational.proofs.SumLaws.{at_or_other, sum-cong}
use Rattle.lp_run.specs.Instance.{Instance, bounds, coefficient, column_count, column_kind, is_needed, kind_bounds, kind_coefficient, no_structural, passed_side, row_count, sign_past, structural, structural_count}
use Rattle.lp_run.specs.Solution.{Regular, basis_times, times_basis}
use Rattle.lp_run.specs.State.{State, basic, rest, resting_value, status_of}
use Rattle.ranging.specs.Ranges.{with_cost, with_right}

-- the same rows and columns, but for costs and right sides
pub record Alike (a b : Instance) : Type 0 where
  pub rows : row_count b ≡ row_count a
  pub columns : structural_count b ≡ structural_count a
  pub entries : (j : ℕ) → (structural b j).entries ≡ (structural a j).entries
  pub bounds : (j : ℕ) → (structural b j).bounds ≡ (structural a j).bounds
  pub logicals : b.logicals ≡ a.logicals
  pub passed : b.passed ≡ a.passed

kind_at : ℕ → ℕ → ℕ → ColumnKind
kind_at n m j = if nat_lt j n then column.Structural j else (if nat_lt j (n + m) then column.Logical (j - n) else column.Artificial (j - n - m))

module _ (a b : Instance) (h : Alike a b) where
  same_passed : (i : ℕ) → passed_side b i ≡ passed_side a i
  same_passed i = ap (λ (p : List (Option Side)). get_or p i None) h.passed

  pub same_kind : (k : ℕ) → column_kind b k ≡ column_kind a k
  unfolding kind_at
  same_kind k = ap₂ (λ n m. kind_at n m k) h.columns h.rows

  by_kind : (i : ℕ) (c : ColumnKind) → kind_coefficient b i c ≡ kind_coefficient a i c
  by_kind i (column.Structural j) = ap (λ es. entry_at es i) (h.entries j)
  by_kind i (column.Logical k) = refl
  by_kind i (column.Artificial k) = ap (λ p. at_index i k (sign_past p)) (same_passed k)

  pub same_coefficient : (i k : ℕ) → coefficient b i k ≡ coefficient a i k
  same_coefficient i k = ap (kind_coefficient b i) (same_kind k) ∙ by_kind i (column_kind a k)

  same_needed : (i : ℕ) → is_needed b i ≡ is_needed a i
  same_needed i = ap (λ p. Rattle.std.specs.Prelude.is_some p) (same_passed i)

  bounds_by_kind : (phase : Phase) (c : ColumnKind) → kind_bounds b phase c ≡ kind_bounds a phase c
  bounds_by_kind phase (column.Structural j) = h.bounds j
  bounds_by_kind phase (column.Logical i) = ap (λ l. get_or l i nonnegative) h.logicals
  bounds_by_kind One (column.Artificial i) = ap (λ t. cond t nonnegative (between zero_ℚ zero_ℚ)) (same_needed i)
  bounds_by_kind Two (column.Artificial i) = refl

  pub same_bounds : (phase : Phase) (k : ℕ) → bounds b phase k ≡ bounds a phase k
  same_bounds phase k = ap (kind_bounds b phase) (same_kind k) ∙ bounds_by_kind phase (column_kind a k)

  pub same_count : column_count b ≡ column_count a
  same_count = ap₂ (λ n m. n + m + m) h.columns h.rows

  module _ (s : State) where
    pub same_rest : (k : ℕ) → rest b s k ≡ rest a s k
    same_rest k = ap (resting_value (status_of s k)) (same_bounds s.phase k)

    pub same_basis_times : (v : ℕ → ℚ) (i : ℕ) → basis_times b s v i ≡ basis_times a s v i
    same_basis_times v i =
        ap (λ n. sum_ℚ n (λ p. coefficient b i (basic s p) *ℚ v p)) h.rows
        ∙ sum-cong (row_count a) _ _ (λ p c. ap (λ z. z *ℚ v p) (same_coefficient i (basic s p)))

    pub same_times_basis : (y : ℕ → ℚ) (p : ℕ) → times_basis b s y p ≡ times_basis a s y p
    same_times_basis y p =
        ap (λ n. sum_ℚ n (λ i. y i *ℚ coefficient b i (basic s p))) h.rows
        ∙ sum-cong (row_count a) _ _ (λ i c. ap (λ z. y i *ℚ z) (same_coefficient i (basic s p)))

    pub same_regular : Regular a s → Regular b s
    same_regular r = record {
      columns = λ v none j c. r.columns v (λ i d. sym (same_basis_times v i) ∙ none i (subst (λ n. i < n) (sym h.rows) d)) j (subst (λ n. j < n) h.rows c);
      rows = λ y none i c. r.rows y (λ p d. sym (same_times_basis y p) ∙ none p (subst (λ n. p < n) (sym h.rows) d)) i (subst (λ n. i < n) h.rows c);
    }

-- ── a changed cost, and a changed right side ──

module _ (inst : Instance) (j : ℕ) (below : j < structural_count inst) (t : ℚ) where
  changed_entries : (k : ℕ) → (structural (with_cost inst j t) k).entries ≡ (structural inst k).entries
  changed_entries k =
      at_or_other (λ k. (structural (with_cost inst j t) k).entries ≡ (structural inst k).entries) j k
      (ap (λ c. c.entries) (get_or-set_same inst.structurals j _ no_structural below))
      (λ other. ap (λ c. c.entries) (get_or-set_other inst.structurals j k _ no_structural other))

  changed_bounds : (k : ℕ) → (structural (with_cost inst j t) k).bounds ≡ (structural inst k).bounds
  changed_bounds k =
      at_or_other (λ k. (structural (with_cost inst j t) k).bounds ≡ (structural inst k).bounds) j k
      (ap (λ c. c.bounds) (get_or-set_same inst.structurals j _ no_structural below))
      (λ other. ap (λ c. c.bounds) (get_or-set_other inst.structurals j k _ no_structural other))

  pub cost_alike : Alike inst (with_cost inst j t)
  cost_alike = record {
    rows = refl;
    columns = length-set inst.structurals j _;
    entries = changed_entries;
    bounds = changed_bounds;
    logicals = refl;
    passed = refl;
  }

  pub cost_there : (structural (with_cost inst j t) j).cost ≡ (structural inst j).cost +ℚ t
  cost_there = ap (λ c. c.cost) (get_or-set_same inst.structurals j _ no_structural below)

  pub cost_elsewhere : (k : ℕ) → k ≢ j → structural (with_cost inst j t) k ≡ structural inst k
  cost_elsewhere k other = get_or-set_other inst.structurals j k _ no_structural other

pub right_alike : (inst : Instance) (i : ℕ) (t : ℚ) → Alike inst (with_right inst i t)
right_alike inst i t = record {
  rows = length-set inst.right i _;
  columns = refl;
  entries = λ j. refl;
  bounds = λ j. refl;
  logicals = refl;
  passed = refl;
}
