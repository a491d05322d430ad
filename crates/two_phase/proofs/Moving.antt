-- The basic values after a move, where only the entering column is known in terms of the basis.
use Rattle.std.proofs.Common.{◌≡◌, ◌≢◌, ℕ, ◌<◌, ◌≤◌, List, length, Bool, eqb, ne_eqb, refl, sym, ◌∙◌, ap, subst, arith}
use Rattle.lp_model.specs.declared.Entry.{Entry}
use Rattle.lp_model.specs.declared.Entry.TheVariants.{Flip, Swap, Turn}
use Rattle.lp_model.specs.declared.Side.{Side}
use Rattle.rational.specs.Rational.{ℚ, zero_ℚ}
use Rattle.rational.specs.Sum.{at}
use Rattle.rational.proofs.VectorLaws.{get-map-upto}
use Rattle.lp_run.specs.Instance.{Instance, IsWellFormed, row_count}
use Rattle.lp_run.specs.Run.{IsRun}
use Rattle.lp_run.specs.Solution.{Values, reduced}
use Rattle.lp_run.specs.State.{State, after, basic, rest}
use Rattle.lp_run.specs.Step.{IsLimit, IsNext, Leaves, Limit, Pivoting, direction}
use Rattle.lp_run.specs.Tableau.{HasTable, pivoted, repriced, table_column, table_cost}
use Rattle.lp_run.proofs.Regularity.{column_solves, one_column, one_prices}
use Rattle.lp_run.proofs.Runs.{reached_has_table, reached_regular}
use Rattle.table_laws.specs.Stands.{StandsAt, prices_shown}
use Rattle.table_laws.proofs.Stepped.{swapped, turned}
use Rattle.table_laws.proofs.Tableaus.{tableau_stands}
use Rattle.bland_ratio.specs.Leave.{direction_where}
use Rattle.plain_table.specs.Inner.Values.{AreMoved, moved, value_work}
use Rattle.plain_table.proofs.Stepping.{flip_stands, swap_stands}

module _ (inst : Instance) (well_formed : IsWellFormed inst) (log : List Entry) (s : State) (reached : IsRun inst log s) (β : List ℚ) (values : Values inst s β) where
  has : HasTable inst s
  has = reached_has_table inst log s reached

  d : ℕ → ℚ
  d = table_cost inst s has.table

  stands : StandsAt inst log s has.table β d
  unfolding d
  stands = tableau_stands inst log s has.table β (table_cost inst s has.table) reached (record { inverse = has.inverse; entries = has.entries; values = values; costs = λ j b. refl })

  -- a turn leaves the basic values
  pub turn_values : IsNext inst s Turn → Values inst (after s Turn) β
  turn_values next = (turned inst well_formed log s has.table β d stands next).values

  module _ (y α : List ℚ) (q : ℕ) (pivoting : Pivoting inst s y β α q) (down : Bool) (turns : direction (reduced inst s y q) ≡ direction_where down) where
    column_is : α ≡ table_column inst has.table q
    column_is =
        one_column inst s (reached_regular inst log s reached) q α (table_column inst has.table q) pivoting.column
        (column_solves inst s has.table stands.columns q pivoting.enters.eligible.in_range)

    element_is : (k : ℕ) → k < row_count inst → at α k ≡ has.table k q
    element_is k b = ap (λ v. at v k) column_is ∙ get-map-upto (λ p. has.table p q) zero_ℚ (row_count inst) k b

    cost_is : direction (d q) ≡ direction (reduced inst s y q)
    cost_is =
        ap direction (stands.costs q pivoting.enters.eligible.in_range
        ∙ ap (λ y. reduced inst s y q) (one_prices inst s (reached_regular inst log s reached) (prices_shown inst d) y stands.prices pivoting.prices))

    -- the next entry is a flip of the column
    pub flip_next : (r : ℚ) → Leaves inst s q (direction (reduced inst s y q)) β α (record { ratio = r; column = q; entry = Flip q }) → IsNext inst s (Flip q)
    flip_next r leaves = (y, β, α, q, record { ratio = r; column = q; entry = Flip q }, pivoting, leaves, refl)

    pub flip_values : (r : ℚ) → Leaves inst s q (direction (reduced inst s y q)) β α (record { ratio = r; column = q; entry = Flip q })
        → (p : ℕ) (v : ℚ) (out : List ℚ) → row_count inst ≤ p → length out ≡ row_count inst → AreMoved p down v r β α out → Values inst (after s (Flip q)) out
    flip_values r leaves p v out past each moves =
        (flip_stands inst well_formed log s has.table β d stands q (flip_next r leaves) down (record { ratio = r; column = q; entry = Flip q }) out (cost_is ∙ turns)
        (subst (λ t. IsLimit inst s q t β (table_column inst has.table q) (record { ratio = r; column = q; entry = Flip q })) (sym cost_is)
        (subst (λ α. IsLimit inst s q (direction (reduced inst s y q)) β α (record { ratio = r; column = q; entry = Flip q })) column_is leaves.is_limit)) refl each
        (λ i b. moves i (subst (λ n. i < n) (sym values.one_each) b)
        ∙ ap (λ o. (value_work o down v (at β i) (at α i) r).answer) (ne_eqb i p (omega arith))
        ∙ ap (λ a. (moved down (at β i) a r).answer) (element_is i b))).values

    -- the next entry is a swap of the column and a position
    module _ (p : ℕ) (end : Side) (r : ℚ) (leaves : Leaves inst s q (direction (reduced inst s y q)) β α (record { ratio = r; column = basic s p; entry = Swap q p end })) where
      pub swap_next : IsNext inst s (Swap q p end)
      swap_next = (y, β, α, q, record { ratio = r; column = basic s p; entry = Swap q p end }, pivoting, leaves, refl)

      there : (limit : Limit) × (p < row_count inst) × (has.table p q ≢ zero_ℚ)
      there = let found = swapped inst well_formed log s has.table β d stands q p end swap_next in (found.0, found.1, found.2)

      pub swap_position : p < row_count inst
      swap_position = there.1

      pub swap_element : at α p ≢ zero_ℚ
      swap_element none = there.2 (sym (element_is p there.1) ∙ none)

      pub swap_values : (out : List ℚ) → length out ≡ row_count inst → AreMoved p down (rest inst s q) r β α out → Values inst (after s (Swap q p end)) out
      swap_values out each moves =
          (swap_stands inst well_formed log s has.table β d stands q p end swap_next down (record { ratio = r; column = basic s p; entry = Swap q p end }) out (pivoted has.table p q) (repriced has.table d p q)
          (cost_is ∙ turns)
          (subst (λ t. IsLimit inst s q t β (table_column inst has.table q) (record { ratio = r; column = basic s p; entry = Swap q p end })) (sym cost_is)
          (subst (λ α. IsLimit inst s q (direction (reduced inst s y q)) β α (record { ratio = r; column = basic s p; entry = Swap q p end })) column_is leaves.is_limit)) refl each
          (λ i b. moves i (subst (λ n. i < n) (sym values.one_each) b) ∙ ap (λ a. (value_work (eqb i p) down (rest inst s q) (at β i) a r).answer) (element_is i b))
          (λ k j b c. refl) (λ j b. refl)).values
