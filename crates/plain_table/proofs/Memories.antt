-- What holds of a table in memory as it is made.
use Rattle.std.proofs.Common.{◌≡◌, ◌<◌, ◌^◌, List, Vec, Global, length, sym, ◌∙◌, ap, subst}
use Rattle.std.specs.Vec.{with_items}
use Rattle.std.proofs.lemmas.List.{with_items_is}
use Rattle.rational.specs.Rational.{ℚ}
use Rattle.lp_run.specs.Instance.{Instance, IsWellFormed, column_count, row_count}
use Rattle.lp_run.specs.State.{State, basic, start_of}
use Rattle.plain_table.specs.declared.table.Table.TheInside.{Inside}
use Rattle.plain_table.specs.Inner.Makings.{IsAtStart}
use Rattle.plain_table.specs.Inner.Rows.{AreWide}
use Rattle.plain_table.specs.Inner.Tables.{IsSound, plain_of}
use Rattle.plain_table.specs.Plain.{IsSized, Plain}
use Rattle.plain_table.proofs.Makings.{start_sized}

-- what is as long as before stays so
pub same_length : {X Z : Type 0} (v : Vec X Z) (ws : List X) → length (with_items v ws).items ≡ length v.items
same_length v ws = sym (with_items v ws).ok.0 ∙ v.ok.0

-- the memory of a table: its state, and its other parts by their lengths
pub record HasMemory (inst : Instance) (a : Inside) : Type 0 where
  pub state : a.state ≡ start_of inst
  pub number : a.number ≡ 0
  pub rows : length a.rows.items ≡ row_count inst
  pub wide : AreWide (column_count inst) a.rows.items
  pub values : length a.values.items ≡ row_count inst
  pub costs : length a.costs.items ≡ column_count inst
  pub spare_rows : length a.spare_rows.items ≡ row_count inst
  pub spare_wide : AreWide (column_count inst) a.spare_rows.items
  pub spare_values : length a.spare_values.items ≡ row_count inst
  pub spare_costs : length a.spare_costs.items ≡ column_count inst
  pub pivot_row : length a.pivot_row.items ≡ column_count inst
  pub support : length a.support.items ≡ column_count inst
  pub alpha : length a.alpha.items ≡ row_count inst

-- a table of the start's state and size is at the start
pub starts : (inst : Instance) (t : Plain) → IsWellFormed inst → t.state ≡ start_of inst → t.number ≡ 0 → length t.rows ≡ row_count inst → AreWide (column_count inst) t.rows
    → length t.values ≡ row_count inst → length t.costs ≡ column_count inst → IsAtStart inst t
starts inst t h state number rows wide values costs = record {
  state = state;
  number = number;
  sized = start_sized inst h t state rows (λ p b. wide p (subst (λ k. p < k) (sym rows) b)) values costs;
}

module _ (inst : Instance) (a : Inside) (m : HasMemory inst a) where
  sized_there : IsSized (row_count inst) (column_count inst) (plain_of a) → IsSized (length a.rows.items) (length a.costs.items) (plain_of a)
  sized_there s = subst (λ k. IsSized k (length a.costs.items) (plain_of a)) (sym m.rows) (subst (λ k. IsSized (row_count inst) k (plain_of a)) (sym m.costs) s)

  pub is_sound : row_count inst < 2 ^ 32 → column_count inst < 2 ^ 32 → IsSized (row_count inst) (column_count inst) (plain_of a) → IsSound a
  is_sound few_rows few_columns s = record {
    sized = sized_there s;
    spare_rows = m.spare_rows ∙ sym m.rows;
    spare_wide = subst (λ k. AreWide k a.spare_rows.items) (sym m.costs) m.spare_wide;
    spare_values = m.spare_values ∙ sym m.rows;
    spare_costs = m.spare_costs ∙ sym m.costs;
    pivot_row = m.pivot_row ∙ sym m.costs;
    support = m.support ∙ sym m.costs;
    alpha = m.alpha ∙ sym m.rows;
    few_rows = subst (λ k. k < 2 ^ 32) (sym m.rows) few_rows;
    few_columns = subst (λ k. k < 2 ^ 32) (sym m.costs) few_columns;
  }

-- a sound table of the start has its memory
pub memory_of : (inst : Instance) (a : Inside) → IsSound a → IsAtStart inst (plain_of a) → HasMemory inst a
memory_of inst a h s = record {
  state = s.state;
  number = s.number;
  rows = s.sized.rows;
  wide = λ p b. s.sized.wide p (subst (λ k. p < k) s.sized.rows b);
  values = s.sized.values;
  costs = s.sized.costs;
  spare_rows = h.spare_rows ∙ s.sized.rows;
  spare_wide = subst (λ k. AreWide k a.spare_rows.items) s.sized.costs h.spare_wide;
  spare_values = h.spare_values ∙ s.sized.rows;
  spare_costs = h.spare_costs ∙ s.sized.costs;
  pivot_row = h.pivot_row ∙ s.sized.costs;
  support = h.support ∙ s.sized.costs;
  alpha = h.alpha ∙ s.sized.rows;
}

-- ── the same memory with other numbers ──

-- other rows, basic values, reduced costs and another column, each as long as before
pub refilled : (inst : Instance) (a : Inside) → HasMemory inst a → (rows : Vec (List ℚ) Global) (values costs alpha : Vec ℚ Global) → AreWide (column_count inst) rows.items
    → length rows.items ≡ length a.rows.items → length values.items ≡ length a.values.items → length costs.items ≡ length a.costs.items → length alpha.items ≡ length a.alpha.items
    → HasMemory inst (record a { rows = rows; values = values; costs = costs; alpha = alpha })
refilled inst a m rows values costs alpha wide rows_many values_many costs_many alpha_many = record {
  state = m.state;
  number = m.number;
  rows = rows_many ∙ m.rows;
  wide = wide;
  values = values_many ∙ m.values;
  costs = costs_many ∙ m.costs;
  spare_rows = m.spare_rows;
  spare_wide = m.spare_wide;
  spare_values = m.spare_values;
  spare_costs = m.spare_costs;
  pivot_row = m.pivot_row;
  support = m.support;
  alpha = alpha_many ∙ m.alpha;
}

module _ (inst : Instance) (a : Inside) (sound : IsSound a) (start : IsAtStart inst (plain_of a)) (b : Inside) (m : HasMemory inst b) where
  same_state : b.state ≡ a.state
  same_state = m.state ∙ sym start.state

  sized_again : IsSized (row_count inst) (column_count inst) (plain_of b)
  sized_again = record {
    rows = m.rows;
    wide = λ p c. m.wide p (subst (λ k. p < k) (sym m.rows) c);
    values = m.values;
    costs = m.costs;
    basis = ap (λ (s : State). length s.basis) same_state ∙ start.sized.basis;
    statuses = ap (λ (s : State). length s.statuses) same_state ∙ start.sized.statuses;
    within = λ p c. subst (λ (s : State). basic s p < column_count inst) (sym same_state) (start.sized.within p c);
  }

  pub start_again : IsAtStart inst (plain_of b)
  start_again = record { state = m.state; number = m.number; sized = sized_again }

  pub sound_again : IsSound b
  sound_again =
      is_sound inst b m (subst (λ k. k < 2 ^ 32) start.sized.rows sound.few_rows) (subst (λ k. k < 2 ^ 32) start.sized.costs sound.few_columns) sized_again

-- a list of as many items as before is read back as it was written
pub written : {X Z : Type 0} (v : Vec X Z) (slice out : List X) → slice ≡ v.items → length out ≡ length slice → (with_items v out).items ≡ out
written v slice out is same = with_items_is v out (same ∙ ap (λ xs. length xs) is ∙ sym v.ok.0)
