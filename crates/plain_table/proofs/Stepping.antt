-- A table that stands, after a swap: what the swap lists, and that the table after it stands.
use Rattle.std.proofs.Common.{◌≡◌, ℕ, ◌<◌, List, [], ◌∷◌, ◌++◌, length, Bool, true, false, cond, eqb, eq-eqb, ne_eqb, inl, inr, Some, refl, sym, ◌∙◌, ap, ap₂, subst}
use Rattle.lp_model.specs.declared.Entry.{Entry}
use Rattle.lp_model.specs.declared.Entry.TheVariants.{Flip, Swap, Turn}
use Rattle.lp_model.specs.declared.Side.{Side}
use Rattle.rational.specs.Rational.{ℚ, zero_ℚ, one_ℚ, neg_ℚ, ◌+ℚ◌, ◌-ℚ◌, ◌*ℚ◌, lt_ℚ}
use Rattle.rational.specs.Sum.{at}
use Rattle.rational.specs.Worked.{work}
use Rattle.rational.proofs.RationalRing.{ring_ℚ}
use Rattle.rational.proofs.Ring.{◌≐◌, ◌⊖◌, ◌⊕◌, ◌⊗◌, ⊝◌, 𝟙}
use Rattle.lp_run.specs.Instance.{Instance, IsWellFormed, bounds, column_count, row_count}
use Rattle.lp_run.specs.Listing.{MoveLists, move_listing, ratio_listing}
use Rattle.lp_run.specs.Solution.{ColumnOf, reduced}
use Rattle.lp_run.specs.State.{State, after, rest}
use Rattle.lp_run.specs.Step.{Enters, IsLimit, IsNext, Leaves, Limit, Pivoting, direction, limit_at, own_limit}
use Rattle.lp_run.specs.Tableau.{pivoted, repriced, table_column, table_cost}
use Rattle.lp_run.proofs.Kept.{limit_swaps}
use Rattle.lp_run.proofs.Regularity.{column_solves, one_column, one_prices, one_values}
use Rattle.lp_run.proofs.Runs.{reached_regular}
use Rattle.lp_run.proofs.Tables.{same_tableau}
use Rattle.lp_run.proofs.Unique.{eligible_not_basic, one_leaving, own_limit_is}
use Rattle.table_laws.specs.Stands.{StandsAt, prices_shown}
use Rattle.table_laws.proofs.Stepped.{flipped, swapped, turned}
use Rattle.table_laws.proofs.Tableaus.{stands_tableau, tableau_stands}
use Rattle.plain_table.specs.Inner.Values.{entered_by, moved, value_work}
use Rattle.rational.proofs.Settling.{less_answer, more_answer}
use Rattle.plain_table.proofs.Swaps.{turned_by}

-- a table with the same entries and reduced costs stands as well
pub same_stands : (inst : Instance) (log : List Entry) (s : State) (table table' : ℕ → ℕ → ℚ) (β : List ℚ) (d d' : ℕ → ℚ)
    → ((p j : ℕ) → p < row_count inst → j < column_count inst → table' p j ≡ table p j) → ((j : ℕ) → j < column_count inst → d' j ≡ d j)
    → StandsAt inst log s table β d → StandsAt inst log s table' β d'
same_stands inst log s table table' β d d' same costs stands =
    tableau_stands inst log s table' β d' stands.reached (same_tableau inst s table table' same β d d' costs (stands_tableau inst log s table β d stands))

-- ── what a move lists ──

module _ (inst : Instance) (log : List Entry) (s : State) (table : ℕ → ℕ → ℚ) (β : List ℚ) (d : ℕ → ℚ) (stands : StandsAt inst log s table β d) where
  module _ (q : ℕ) (y' β' α' : List ℚ) (pivoting : Pivoting inst s y' β' α' q) (limit : Limit) (leaves : Leaves inst s q (direction (reduced inst s y' q)) β' α' limit) where
    prices_are : y' ≡ prices_shown inst d
    prices_are = one_prices inst s (reached_regular inst log s stands.reached) y' (prices_shown inst d) pivoting.prices stands.prices

    enters : Enters inst s (prices_shown inst d) q
    enters = subst (λ y. Enters inst s y q) prices_are pivoting.enters

    solves : ColumnOf inst s q (table_column inst table q)
    solves = column_solves inst s table stands.columns q enters.eligible.in_range

    cost_is : d q ≡ reduced inst s (prices_shown inst d) q
    cost_is = stands.costs q enters.eligible.in_range

    -- it works with what the table shows
    pub shown_pivoting : Pivoting inst s (prices_shown inst d) β (table_column inst table q) q
    shown_pivoting = record { prices = stands.prices; values = stands.values; enters = enters; column = solves }

    pub shown_leaves : Leaves inst s q (direction (reduced inst s (prices_shown inst d) q)) β (table_column inst table q) limit
    shown_leaves =
        subst (λ α. Leaves inst s q (direction (reduced inst s (prices_shown inst d) q)) β α limit)
        (one_column inst s (reached_regular inst log s stands.reached) q α' (table_column inst table q) pivoting.column solves)
        (subst (λ β. Leaves inst s q (direction (reduced inst s (prices_shown inst d) q)) β α' limit)
        (one_values inst s (reached_regular inst log s stands.reached) β' β pivoting.values stands.values)
        (subst (λ y. Leaves inst s q (direction (reduced inst s y q)) β' α' limit) prices_are leaves))

    -- the one that the ratio test finds
    pub found_limit : (other : Limit) → Leaves inst s q (direction (d q)) β (table_column inst table q) other → other ≡ limit
    found_limit other h =
        one_leaving inst s (reached_regular inst log s stands.reached) q (direction (reduced inst s (prices_shown inst d) q)) β (table_column inst table q)
        (eligible_not_basic inst s (prices_shown inst d) q stands.prices enters.eligible) other limit
        (subst (λ c. Leaves inst s q (direction c) β (table_column inst table q) other) cost_is h) shown_leaves

    pub move_lists : MoveLists inst (length log) s
        (ratio_listing inst (length log) s q (direction (d q)) β (table_column inst table q)
        ++ move_listing inst (length log) s table β (table_column inst table q) (reduced inst s (prices_shown inst d)) q (direction (d q)) limit.ratio limit.entry)
    move_lists = (
      table,
      record { prices = prices_shown inst d; values = β; column = table_column inst table q; entering = q; limit = limit; pivoting = shown_pivoting; leaves = shown_leaves },
      stands.columns,
      ap (λ t. ratio_listing inst (length log) s q t β (table_column inst table q)
          ++ move_listing inst (length log) s table β (table_column inst table q) (reduced inst s (prices_shown inst d)) q t limit.ratio limit.entry) (ap direction cost_is),
    )

-- ── the values after a move ──

-- the direction of a step, by whether the entering column falls
pub direction_falls : (d : ℚ) (down : Bool) → lt_ℚ d zero_ℚ ≡ cond down false true → direction d ≡ turned_by down
direction_falls d true e = ap (λ t. cond t one_ℚ (neg_ℚ one_ℚ)) e
direction_falls d false e = ap (λ t. cond t one_ℚ (neg_ℚ one_ℚ)) e

pub entered_is : (down : Bool) (v ratio : ℚ) → entered_by down v ratio ≡ v +ℚ turned_by down *ℚ ratio
entered_is true v ratio = ring_ℚ 2 (λ v r. v ⊖ r ≐ v ⊕ ⊝ 𝟙 ⊗ r) tt v ratio
entered_is false v ratio = ring_ℚ 2 (λ v r. v ⊕ r ≐ v ⊕ 𝟙 ⊗ r) tt v ratio

pub moved_is : (down : Bool) (x a ratio : ℚ) → (moved down x a ratio).answer ≡ x -ℚ a *ℚ (turned_by down *ℚ ratio)
moved_is true x a ratio = more_answer x a ratio ∙ ring_ℚ 3 (λ x a r. x ⊕ a ⊗ r ≐ x ⊖ a ⊗ (⊝ 𝟙 ⊗ r)) tt x a ratio
moved_is false x a ratio = less_answer x a ratio ∙ ring_ℚ 3 (λ x a r. x ⊖ a ⊗ r ≐ x ⊖ a ⊗ (𝟙 ⊗ r)) tt x a ratio

-- ── the table after a swap ──

-- the limit that gives a swap is that of its position
limit_there : (inst : Instance) (s : State) (q p : ℕ) (end : Side) (t : ℚ) (β α : List ℚ) (other limit : Limit) → IsLimit inst s q t β α other → other.entry ≡ Swap q p end
    → limit_at inst s q t β α p ≡ Some limit → other ≡ limit
limit_there inst s q p end t β α other limit (inl (k, b, there)) is here =
    let swaps = limit_swaps inst s q t β α k other there in
    let at_position : k ≡ p = same_position k swaps.0 (sym swaps.1 ∙ is) in
    some_same other limit (sym there ∙ ap (λ k. limit_at inst s q t β α k) at_position ∙ here)
  where
    same_position : (k : ℕ) (r : Side) → Swap q k r ≡ Swap q p end → k ≡ p
    same_position k r e = cc

    some_same : (a b : Limit) → Some a ≡ Some b → a ≡ b
    some_same a b e = cc
limit_there inst s q p end t β α other limit (inr own) is here =
    absurd (not_swap (sym (own_limit_is (bounds inst s.phase q).lower (bounds inst s.phase q).upper q other own).1 ∙ is))
  where
    not_swap : Flip q ≡ Swap q p end → ⊥
    not_swap e = cc e

module _ (inst : Instance) (h : IsWellFormed inst) (log : List Entry) (s : State) (table : ℕ → ℕ → ℚ) (β : List ℚ) (d : ℕ → ℚ) (stands : StandsAt inst log s table β d)
    (q p : ℕ) (end : Side) (next : IsNext inst s (Swap q p end)) where
  pub swap_stands : (down : Bool) (other : Limit) (values : List ℚ) (table' : ℕ → ℕ → ℚ) (d' : ℕ → ℚ)
      → direction (d q) ≡ turned_by down → IsLimit inst s q (direction (d q)) β (table_column inst table q) other → other.entry ≡ Swap q p end
      → length values ≡ row_count inst
      → ((i : ℕ) → i < row_count inst → at values i ≡ (value_work (eqb i p) down (rest inst s q) (at β i) (table i q) other.ratio).answer)
      → ((k j : ℕ) → k < row_count inst → j < column_count inst → table' k j ≡ pivoted table p q k j)
      → ((j : ℕ) → j < column_count inst → d' j ≡ repriced table d p q j)
      → StandsAt inst (log ++ Swap q p end ∷ []) (after s (Swap q p end)) table' values d'
  unfolding work
  swap_stands down other values table' d' turns is_limit entry each moves entries costs =
      let w = swapped inst h log s table β d stands q p end next in
      let same : other ≡ w.0 = limit_there inst s q p end (direction (d q)) β (table_column inst table q) other w.0 is_limit entry w.3 in
      let step_is : turned_by down *ℚ other.ratio ≡ direction (d q) *ℚ w.0.ratio = ap₂ (λ t (l : Limit). t *ℚ l.ratio) (sym turns) same in
      same_stands inst (log ++ Swap q p end ∷ []) (after s (Swap q p end)) (pivoted table p q) table' values (repriced table d p q) d' entries costs
      (w.5 values each
      (λ k b apart. moves k b
      ∙ ap (λ o. (value_work o down (rest inst s q) (at β k) (table k q) other.ratio).answer) (ne_eqb k p apart)
      ∙ moved_is down (at β k) (table k q) other.ratio ∙ ap (λ z. at β k -ℚ table k q *ℚ z) step_is)
      (moves p w.1
      ∙ ap (λ o. (value_work o down (rest inst s q) (at β p) (table p q) other.ratio).answer) (eq-eqb p p refl)
      ∙ entered_is down (rest inst s q) other.ratio ∙ ap (λ z. rest inst s q +ℚ z) step_is))

-- ── the table after a flip, and after a turn ──

-- the limit that gives a flip is that of the entering column itself
own_limit_there : (inst : Instance) (s : State) (q : ℕ) (t : ℚ) (β α : List ℚ) (other limit : Limit) → IsLimit inst s q t β α other → other.entry ≡ Flip q
    → own_limit (bounds inst s.phase q) q ≡ Some limit → other ≡ limit
own_limit_there inst s q t β α other limit (inl (k, b, there)) is here =
    let swaps = limit_swaps inst s q t β α k other there in
    absurd (not_flip k swaps.0 (sym swaps.1 ∙ is))
  where
    not_flip : (k : ℕ) (r : Side) → Swap q k r ≡ Flip q → ⊥
    not_flip k r e = cc e
own_limit_there inst s q t β α other limit (inr own) is here = some_same other limit (sym own ∙ here)
  where
    some_same : (a b : Limit) → Some a ≡ Some b → a ≡ b
    some_same a b e = cc

module _ (inst : Instance) (h : IsWellFormed inst) (log : List Entry) (s : State) (table : ℕ → ℕ → ℚ) (β : List ℚ) (d : ℕ → ℚ) (stands : StandsAt inst log s table β d) where
  pub flip_stands : (q : ℕ) → IsNext inst s (Flip q) → (down : Bool) (other : Limit) (values : List ℚ)
      → direction (d q) ≡ turned_by down → IsLimit inst s q (direction (d q)) β (table_column inst table q) other → other.entry ≡ Flip q
      → length values ≡ row_count inst → ((i : ℕ) → i < row_count inst → at values i ≡ (moved down (at β i) (table i q) other.ratio).answer)
      → StandsAt inst (log ++ Flip q ∷ []) (after s (Flip q)) table values d
  flip_stands q next down other values turns is_limit entry each moves =
      let w = flipped inst h log s table β d stands q next in
      let same : other ≡ w.0 = own_limit_there inst s q (direction (d q)) β (table_column inst table q) other w.0 is_limit entry w.1 in
      w.2 values each (λ k b. moves k b ∙ moved_is down (at β k) (table k q) other.ratio ∙ ap (λ z. at β k -ℚ table k q *ℚ z) (ap₂ (λ t (l : Limit). t *ℚ l.ratio) (sym turns) same))

  pub turn_stands : IsNext inst s Turn → (d' : ℕ → ℚ) → ((j : ℕ) → j < column_count inst → d' j ≡ table_cost inst (after s Turn) table j) → StandsAt inst (log ++ Turn ∷ []) (after s Turn) table β d'
  turn_stands next d' costs =
      same_stands inst (log ++ Turn ∷ []) (after s Turn) table table β (table_cost inst (after s Turn) table) d' (λ p j b c. refl) costs (turned inst h log s table β d stands next)
