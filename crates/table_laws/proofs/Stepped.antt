-- How an entry changes a table that stands at a state of a run.
use Rattle.std.proofs.Common.{◌≡◌, ℕ, ◌<◌, ◌≢◌, List, [], ◌∷◌, ◌++◌, length, Some, refl, sym, ◌∙◌, ap, ap₂, subst}
use Rattle.lp_model.specs.declared.Entry.{Entry}
use Rattle.lp_model.specs.declared.Entry.TheVariants.{Flip, Swap, Turn}
use Rattle.lp_model.specs.declared.Side.{Side}
use Rattle.rational.specs.Rational.{ℚ, zero_ℚ, ◌-ℚ◌, ◌+ℚ◌, ◌*ℚ◌}
use Rattle.rational.specs.Sum.{at}
use Rattle.rational.proofs.VectorLaws.{get-map-upto}
use Rattle.lp_run.specs.Instance.{Instance, IsWellFormed, bounds, row_count}
use Rattle.lp_run.specs.Solution.{Values, reduced}
use Rattle.lp_run.specs.State.{State, after, rest}
use Rattle.lp_run.specs.Step.{IsNext, Limit, Pivoting, direction, limit_at, own_limit}
use Rattle.lp_run.specs.Tableau.{IsTableau, pivoted, repriced, table_column, table_cost}
use Rattle.lp_run.proofs.Kept.{limit_element}
use Rattle.lp_run.proofs.Pivot.{Exchanges, Steps, pivot_tableau}
use Rattle.lp_run.proofs.Regularity.{column_solves, one_column, one_prices, one_values}
use Rattle.lp_run.proofs.Runs.{leads_on, reached_regular}
use Rattle.bland_laws.specs.Kept.{IsBounded}
use Rattle.bland_laws.proofs.Always.{instance_holds}
use Rattle.bland_laws.proofs.Bounded.{is_bounded}
use Rattle.bland_laws.proofs.Holding.{Holds, same_values}
use Rattle.bland_laws.proofs.Moving.{FlipStep, SwapStep, flip_step, swap_step}
use Rattle.bland_laws.proofs.Phases.{turn_values}
use Rattle.bland_laws.proofs.Shifted.{Flipped, Swapped, flipped_weight, values_moved}
use Rattle.bland_laws.proofs.Stepping.{is_flipped, is_swapped}
use Rattle.table_laws.specs.Stands.{StandsAt, prices_shown}
use Rattle.table_laws.proofs.Tableaus.{stands_tableau, tableau_stands}

module _ (inst : Instance) (h : IsWellFormed inst) (log : List Entry) (s : State) (table : ℕ → ℕ → ℚ) (β : List ℚ) (d : ℕ → ℚ) (stands : StandsAt inst log s table β d) where
  bounded : IsBounded inst
  bounded = is_bounded inst h

  holds : Holds inst s
  holds = instance_holds inst h log s stands.reached

  tableau : IsTableau inst s table β d
  tableau = stands_tableau inst log s table β d stands

  -- what a move works with is what the table shows
  module _ (y' β' α' : List ℚ) (q : ℕ) (pivoting : Pivoting inst s y' β' α' q) where
    prices_are : y' ≡ prices_shown inst d
    prices_are = one_prices inst s (reached_regular inst log s stands.reached) y' (prices_shown inst d) pivoting.prices stands.prices

    values_are : β' ≡ β
    values_are = one_values inst s (reached_regular inst log s stands.reached) β' β pivoting.values stands.values

    column_is : α' ≡ table_column inst table q
    column_is =
        one_column inst s (reached_regular inst log s stands.reached) q α' (table_column inst table q) pivoting.column
        (column_solves inst s table stands.columns q pivoting.enters.eligible.in_range)

    element_is : (k : ℕ) → k < row_count inst → at α' k ≡ table k q
    element_is k b = ap (λ v. at v k) column_is ∙ get-map-upto (λ p. table p q) zero_ℚ (row_count inst) k b

    cost_is : reduced inst s y' q ≡ d q
    cost_is = ap (λ y. reduced inst s y q) prices_are ∙ sym (stands.costs q pivoting.enters.eligible.in_range)

  -- ── a flip ──

  -- the entering column moves by the distance between its ends, and each basic value against it
  pub flipped : (q : ℕ) → IsNext inst s (Flip q) → (limit : Limit) × (own_limit (bounds inst s.phase q) q ≡ Some limit)
      × ((values : List ℚ) → length values ≡ row_count inst → ((k : ℕ) → k < row_count inst → at values k ≡ at β k -ℚ table k q *ℚ (direction (d q) *ℚ limit.ratio))
      → StandsAt inst (log ++ Flip q ∷ []) (after s (Flip q)) table values d)
  flipped q next =
      let f = flip_step inst s q next in (
        f.limit,
        f.own,
        λ values each moved. tableau_stands inst (log ++ Flip q ∷ []) (after s (Flip q)) table values d
            (leads_on inst _ s log (Flip q) stands.reached next)
            (record { inverse = tableau.inverse; entries = tableau.entries; values = flip_values f values each moved; costs = tableau.costs }),
      )
    where
      flip_values : (f : FlipStep inst s q) (values : List ℚ) → length values ≡ row_count inst
          → ((k : ℕ) → k < row_count inst → at values k ≡ at β k -ℚ table k q *ℚ (direction (d q) *ℚ f.limit.ratio)) → Values inst (after s (Flip q)) values
      flip_values f values each moved =
          let step : ℚ = direction (reduced inst s f.y q) *ℚ f.limit.ratio in
          let was = is_flipped inst bounded s holds f.y f.β f.α q f.pivoting f.limit f.leaves f.own in
          let is : Flipped inst s (after s (Flip q)) f.β values f.α q step = record {
            column = was.column;
            same_basis = was.same_basis;
            moved = λ k b. moved k b
                ∙ ap₂ (λ v z. at v k -ℚ z) (sym (values_are f.y f.β f.α q f.pivoting))
                (ap₂ (λ a c. a *ℚ (direction c *ℚ f.limit.ratio)) (sym (element_is f.y f.β f.α q f.pivoting k b)) (sym (cost_is f.y f.β f.α q f.pivoting)));
            gone = was.gone;
            others = was.others;
          } in
          values_moved inst s (after s (Flip q)) f.β values f.α q step each f.pivoting.values f.pivoting.column (flipped_weight inst s (after s (Flip q)) f.β values f.α q step is)

  -- ── a swap ──

  -- the entering column moves by the ratio of position p, each other basic value against it, and the table pivots
  pub swapped : (q p : ℕ) (end : Side) → IsNext inst s (Swap q p end) → (limit : Limit) × (p < row_count inst) × (table p q ≢ zero_ℚ)
      × (limit_at inst s q (direction (d q)) β (table_column inst table q) p ≡ Some limit) × (limit.entry ≡ Swap q p end)
      × ((values : List ℚ) → length values ≡ row_count inst
      → ((k : ℕ) → k < row_count inst → k ≢ p → at values k ≡ at β k -ℚ table k q *ℚ (direction (d q) *ℚ limit.ratio))
      → at values p ≡ rest inst s q +ℚ direction (d q) *ℚ limit.ratio
      → StandsAt inst (log ++ Swap q p end ∷ []) (after s (Swap q p end)) (pivoted table p q) values (repriced table d p q))
  swapped q p end next =
      let f = swap_step inst s q p end next in (
        f.limit,
        f.position,
        element f,
        limit_there f,
        f.meets.entry,
        λ values each moved entered. tableau_stands inst (log ++ Swap q p end ∷ []) (after s (Swap q p end)) (pivoted table p q) values (repriced table d p q)
            (leads_on inst _ s log (Swap q p end) stands.reached next)
            (pivot_tableau inst s (after s (Swap q p end)) table p q (exchanges f) β values d (direction (d q) *ℚ f.limit.ratio) tableau (steps f values each moved entered)),
      )
    where
      limit_there : (f : SwapStep inst s q p end) → limit_at inst s q (direction (d q)) β (table_column inst table q) p ≡ Some f.limit
      limit_there f =
          ap (λ c. limit_at inst s q (direction c) β (table_column inst table q) p) (sym (cost_is f.y f.β f.α q f.pivoting))
          ∙ ap₂ (λ β α. limit_at inst s q (direction (reduced inst s f.y q)) β α p) (sym (values_are f.y f.β f.α q f.pivoting)) (sym (column_is f.y f.β f.α q f.pivoting))
          ∙ f.limits

      element : (f : SwapStep inst s q p end) → table p q ≢ zero_ℚ
      element f none =
          limit_element inst s q (direction (d q)) β (table_column inst table q) p f.limit (limit_there f)
          (get-map-upto (λ p. table p q) zero_ℚ (row_count inst) p f.position ∙ none)

      swapped_there : (f : SwapStep inst s q p end) → (values : List ℚ) × Swapped inst s (after s (Swap q p end)) f.β values f.α q p (direction (reduced inst s f.y q) *ℚ f.limit.ratio)
      swapped_there f = (_, is_swapped inst bounded s holds f.y f.β f.α q f.pivoting f.limit f.leaves p f.position end f.meets)

      exchanges : (f : SwapStep inst s q p end) → Exchanges inst s (after s (Swap q p end)) table p q
      exchanges f =
          let x = (swapped_there f).1 in
          record { position = x.position; column = x.column; element = element f; placed = x.placed; kept = x.kept; basis_within = holds.table.within; phase = refl }

      steps : (f : SwapStep inst s q p end) (values : List ℚ) → length values ≡ row_count inst
          → ((k : ℕ) → k < row_count inst → k ≢ p → at values k ≡ at β k -ℚ table k q *ℚ (direction (d q) *ℚ f.limit.ratio))
          → at values p ≡ rest inst s q +ℚ direction (d q) *ℚ f.limit.ratio
          → Steps inst s (after s (Swap q p end)) table p q (exchanges f) β values (direction (d q) *ℚ f.limit.ratio)
      steps f values each moved entered =
          let x = (swapped_there f).1 in
          record {
            one_each = each;
            kept_values = moved;
            placed_value = entered;
            leaves_at = x.left_at
                ∙ ap₂ (λ v z. at v p -ℚ z) (values_are f.y f.β f.α q f.pivoting)
                (ap₂ (λ a c. a *ℚ (direction c *ℚ f.limit.ratio)) (element_is f.y f.β f.α q f.pivoting p f.position) (cost_is f.y f.β f.α q f.pivoting));
            was_basic = x.was_basic;
            is_basic = x.is_basic;
            apart = x.apart;
            others = x.others;
          }

  -- ── a turn ──

  -- the table and the values stay, and the reduced costs are those of phase two
  pub turned : IsNext inst s Turn → StandsAt inst (log ++ Turn ∷ []) (after s Turn) table β (table_cost inst (after s Turn) table)
  turned next = tableau_stands inst (log ++ Turn ∷ []) (after s Turn) table β (table_cost inst (after s Turn) table)
      (leads_on inst _ s log Turn stands.reached next)
      (record { inverse = tableau.inverse; entries = tableau.entries; values = kept_values; costs = λ j b. refl })
    where
      kept_values : Values inst (after s Turn) β
      kept_values = subst (Values inst (after s Turn)) (sym (same_values inst s holds β stands.values)) (turn_values inst s holds next.0)
