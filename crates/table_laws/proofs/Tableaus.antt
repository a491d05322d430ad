-- A table that stands at a state of a run is that state's tableau, and the other way round.
use Rattle.std.proofs.Common.{◌≡◌, ℕ, ◌+◌, ◌<◌, List, refl, sym, ◌∙◌, ap, subst, arith}
use Rattle.lp_model.specs.declared.Entry.{Entry}
use Rattle.lp_model.specs.declared.Phase.{Phase}
use Rattle.lp_model.specs.declared.Phase.TheVariants.{One, Two}
use Rattle.rational.specs.Rational.{ℚ, zero_ℚ, ◌-ℚ◌, neg_ℚ}
use Rattle.rational.proofs.RationalRing.{ring_ℚ}
use Rattle.rational.proofs.Ring.{◌≐◌, ◌⊖◌, ⊝◌, 𝟘}
use Rattle.lp_run.specs.Instance.{Instance, column_count, cost, kind_cost, row_count, structural_count}
use Rattle.lp_run.specs.Run.{IsRun}
use Rattle.lp_run.specs.Solution.{Prices, reduced}
use Rattle.lp_run.specs.State.{State}
use Rattle.lp_run.specs.Tableau.{HasTable, IsTableau, prices_of, table_cost, table_price}
use Rattle.lp_run.proofs.Kept.{regular_from_table}
use Rattle.rational.proofs.VectorLaws.{get-map-upto, length-map-upto, same_vectors}
use Rattle.lp_run.proofs.Regularity.{one_prices, one_table, table_solves, tableau_prices, tableau_reduced, tableau_table}
use Rattle.lp_run.proofs.Runs.{reached_has_table}
use Rattle.lp_run.proofs.Start.{kind_of_logical}
use Rattle.lp_run.proofs.Tables.{same_tableau}
use Rattle.table_laws.specs.Stands.{StandsAt, prices_shown}

-- no logical has a cost
pub logical_free : (inst : Instance) (phase : Phase) (i : ℕ) → i < row_count inst → cost inst phase (structural_count inst + i) ≡ zero_ℚ
logical_free inst One i b = ap (kind_cost inst One) (kind_of_logical inst i b)
logical_free inst Two i b = ap (kind_cost inst Two) (kind_of_logical inst i b)

module _ (inst : Instance) (log : List Entry) (s : State) (table : ℕ → ℕ → ℚ) (β : List ℚ) (d : ℕ → ℚ) where
  -- the prices that a tableau's reduced costs show are its prices
  prices_are : IsTableau inst s table β d → prices_shown inst d ≡ prices_of inst s table
  prices_are h =
      same_vectors (prices_shown inst d) (prices_of inst s table) (row_count inst)
      (length-map-upto (λ i. neg_ℚ (d (structural_count inst + i))) (row_count inst)) (length-map-upto (table_price inst s table) (row_count inst))
      (λ i b. get-map-upto (λ i. neg_ℚ (d (structural_count inst + i))) zero_ℚ (row_count inst) i b
      ∙ ap neg_ℚ (h.costs (structural_count inst + i) (omega arith) ∙ ap (λ c. c -ℚ table_price inst s table i) (logical_free inst s.phase i b))
      ∙ ring_ℚ 1 (λ p. ⊝ (𝟘 ⊖ p) ≐ p) tt (table_price inst s table i)
      ∙ sym (get-map-upto (table_price inst s table) zero_ℚ (row_count inst) i b))

  pub tableau_stands : IsRun inst log s → IsTableau inst s table β d → StandsAt inst log s table β d
  tableau_stands run h = record {
    reached = run;
    columns = tableau_table inst s table β d h;
    values = h.values;
    prices = subst (Prices inst s) (sym (prices_are h)) (tableau_prices inst s table β d h (reached_has_table inst log s run).within);
    costs = λ j b. sym (ap (λ y. reduced inst s y j) (prices_are h) ∙ tableau_reduced inst s table β d h j b);
  }

  pub stands_tableau : StandsAt inst log s table β d → IsTableau inst s table β d
  stands_tableau h = same_tableau inst s has.table table same β (table_cost inst s has.table) d same_costs tableau
    where
      has : HasTable inst s
      has = reached_has_table inst log s h.reached

      tableau : IsTableau inst s has.table β (table_cost inst s has.table)
      tableau = record { inverse = has.inverse; entries = has.entries; values = h.values; costs = λ j b. refl }

      same : (p j : ℕ) → p < row_count inst → j < column_count inst → table p j ≡ has.table p j
      same = one_table inst s (regular_from_table inst s has) table has.table h.columns (table_solves inst s has.table has.inverse has.entries)

      same_costs : (j : ℕ) → j < column_count inst → d j ≡ table_cost inst s has.table j
      same_costs j b =
          h.costs j b
          ∙ ap (λ y. reduced inst s y j) (one_prices inst s (regular_from_table inst s has) (prices_shown inst d) (prices_of inst s has.table) h.prices
          (tableau_prices inst s has.table β (table_cost inst s has.table) tableau has.within))
          ∙ tableau_reduced inst s has.table β (table_cost inst s has.table) tableau j b
