-- Along a calm run the factors that are built meet no cause to give them up.
use Rattle.std.proofs.Common.{◌≡◌, ◌≢◌, ℕ, ◌<◌, inl, inr, List, [], ◌∷◌, ◌++◌, length, map, get_or, Bool, true, false, IsSome, IsFalse, Option, Some, None, refl, sym, ◌∙◌, ap, subst}
use Rattle.std.specs.Option.{option_map}
use Rattle.std.proofs.lemmas.Bool.{false≢true}
use Rattle.lp_model.specs.declared.Entry.{Entry}
use Rattle.lp_model.specs.declared.Place.{Place}
use Rattle.lp_model.specs.declared.Kind.TheVariants as kind
use Rattle.lp_model.specs.declared.Status.TheVariants as status
use Rattle.rational.specs.Rational.{ℚ}
use Rattle.rational.specs.Sparse.{upto}
use Rattle.rational.specs.Sum.{at}
use Rattle.rational.specs.Worked.{more, settle}
use Rattle.rational.proofs.Settling.{settle-bind_none}
use Rattle.lp_run.specs.Ends.{point}
use Rattle.lp_run.specs.Instance.{Instance, bounds, column_count, row_count, structural, structural_count}
use Rattle.lp_run.specs.Listing.{AllFit, IsFirstTotal, Listed, added, costs_listing, entries_listing, first_unfit, or_first, place, table_listing, total_listing}
use Rattle.lp_run.specs.Run.{IsRun}
use Rattle.lp_run.specs.Solution.{Values, reduced}
use Rattle.lp_run.specs.Step.{is_fixed}
use Rattle.lp_run.proofs.Regularity.{table_solves}
use Rattle.lp_run.proofs.Start.{start_has_table}
use Rattle.lp_run.specs.State.{State, after, start_of, status_of}
use Rattle.lp_run.proofs.Runs.{leads_on}
use Rattle.bland_ratio.proofs.Stopping.{not_basic}
use Rattle.factor_model.specs.Factors.{Factors}
use Rattle.bland_ratio.specs.Pricing.{HasUnfitCost, IsExactChoice, IsExactPay, IsExactTicket, IsFirstStopper, Stops, priced}
use Rattle.bland_ratio.specs.declared.tickets.Choice.{Choice}
use Rattle.bland_ratio.specs.declared.tickets.Pay.{Pay}
use Rattle.bland_ratio.specs.declared.tickets.Pay.TheVariants as pay
use Rattle.bland_ratio.specs.declared.tickets.Ticket.{Ticket}
use Rattle.factor_run.specs.Built.{built, built_from, made_anew}
use Rattle.factor_run.specs.Calm.{IsCalm, SolvesFit, without_table}
use Rattle.factor_run.specs.Causes.{Cause, column, cost, factors, move, prices}
use Rattle.factor_run.proofs.Building.{built-more}
use Rattle.factor_run.proofs.BuiltLaws.{settled-factors}
use Rattle.factor_run.proofs.Causing.{IsKept, in-middle, kept-append, placed_kept}

nothing : {A : Type 0} (o : Option A) → o ≡ None → IsSome o → ⊥
nothing (Some a) e some = cc e
nothing None e some = false≢true some

all_or_first : (w : ℕ) (vs : List Listed) (here : Place) → AllFit w vs → first_unfit w vs ≡ Some here → ⊥
all_or_first w vs here all first = apart (sym all ∙ first)
  where
    apart : None ≡ Some here → ⊥
    apart e = cc e

module _ (w : ℕ) (inst : Instance) (calm : IsCalm w inst) (log : List Entry) (s : State) (f : Factors) (run : IsRun inst log s) (settled : settle w (built inst log) ≡ Some (Some f)) where
  fits : SolvesFit w inst s f
  fits = calm.solves log s f run settled

  pub no_cause : Cause w inst (length log) s f → ⊥
  no_cause (prices none) = nothing _ none fits.prices
  no_cause (cost y q priced enters none) =
      nothing _ none (fits.reduced y q priced enters.eligible.in_range (not_basic (status_of s q) (reduced inst s y q) enters.eligible.improves) enters.eligible.ends_differ)
  no_cause (column y q priced enters none) = nothing _ none (fits.entering y q priced enters)
  no_cause (move vs here lists unfit) = all_or_first w (without_table vs) here (calm.steps log s vs run (inl lists)) unfit
  no_cause (factors e next none) =
      nothing _ (built-more w inst log s e f run settled ∙ none) (calm.factors (log ++ e ∷ []) (after s e) (leads_on inst (start_of inst) s log e run next))

-- ── what is exact is not unfit ──

totals_kept : (k : ℕ) (f g : ℕ → ℚ) (js : List ℕ) (r : ℚ) → IsKept (added r (map (λ j. (place k kind.Total None (Some j), (f j, g j))) js))
totals_kept k f g [] r = refl
totals_kept k f g (j ∷ js) r = kept-append _ _ (placed_kept (place k kind.Total None (Some j)) (more r (f j) (g j)).values refl) (totals_kept k f g js (more r (f j) (g j)).answer)

total_kept : (k : ℕ) (r : ℚ) (vs : List Listed) → IsKept vs → IsKept (or_first (place k kind.Total None None) r vs)
total_kept k r [] h = refl
total_kept k r (v ∷ vs) h = h

values_kept : (v : ℕ → ℚ) (ps : List ℕ) → IsKept (map (λ p. (place 0 kind.Value (Some p) None, v p)) ps)
values_kept v [] = refl
values_kept v (p ∷ ps) = ap (λ rest. (place 0 kind.Value (Some p) None, v p) ∷ rest) (values_kept v ps)

module _ (w : ℕ) (inst : Instance) (calm : IsCalm w inst) where
  -- the basic values at the start fit
  pub no_unfit_value : (β : List ℚ) → Values inst (start_of inst) β → (here : Place)
      → first_unfit w (map (λ p. (place 0 kind.Value (Some p) None, at β p)) (upto (row_count inst))) ≡ Some here → ⊥
  no_unfit_value β values here unfit =
      let has = start_has_table inst in
      let (first, is) = in-middle w (entries_listing inst) (map (λ p. (place 0 kind.Value (Some p) None, at β p)) (upto (row_count inst))) (costs_listing inst 0 (start_of inst) has.table)
      (values_kept (at β) (upto (row_count inst))) here unfit in
      all_or_first w (without_table (table_listing inst (start_of inst) has.table β)) first
      (calm.making (table_listing inst (start_of inst) has.table β) (has.table, β, table_solves inst (start_of inst) has.table has.inverse has.entries, values, refl)) is

  -- the factors of the start are made
  pub no_unfit_making : settle w (made_anew inst (start_of inst) 0) ≡ None → ⊥
  no_unfit_making none =
      nothing (settle w (built inst [])) (settle-bind_none w (made_anew inst (start_of inst) 0) (λ f. built_from inst (start_of inst) 0 [] f) none)
      (calm.factors [] (start_of inst) refl)

  module _ (log : List Entry) (s : State) (run : IsRun inst log s) where
    -- the sums of the objective fit
    pub no_unfit_total : (here : Place) → IsFirstTotal w inst log s here → ⊥
    no_unfit_total here (y, β, ends, unfit) =
        let vs = total_listing inst (length log) (point inst s β) in
        let kept : IsKept vs =
        total_kept (length log) inst.constant _ (totals_kept (length log) (λ j. (structural inst j).cost) (at (point inst s β)) (upto (structural_count inst)) inst.constant) in
        all_or_first w (without_table vs) here (calm.steps log s vs run (inr (inr (inl (y, β, ends, refl))))) (ap (first_unfit w) kept ∙ unfit)

    -- no column of an exact ticket is an unfit stopper
    pub stops_unfit : (ticket : Ticket) → IsExactTicket inst s ticket → (j : ℕ) → j < column_count inst → Stops w inst ticket j true → ⊥
    stops_unfit ticket exact j below (looked, unfit) = by ticket.pay exact.exact unfit
      where
        there : SolvesFit w inst s (settled-factors inst w log s run (calm.factors log s run)).0
        there = let (f, settled, stands, few) = settled-factors inst w log s run (calm.factors log s run) in calm.solves log s f run settled

        by : (p : Pay) → IsExactPay inst s p → HasUnfitCost w inst ticket.phase p j → ⊥
        by (pay.Costs d) exactly none = none
        by (pay.Prices y) exactly none =
            nothing (settle w (priced inst s.phase y j)) (subst (λ phase. settle w (priced inst phase y j) ≡ None) exact.phase none)
            (there.reduced y j exactly below (subst (λ st. get_or st j status.Lower ≢ status.Basic) exact.statuses looked.1) (subst (λ phase. IsFalse (is_fixed (bounds inst phase j))) exact.phase looked.0))

    -- an exact choice is not unfit
    pub no_unfit_choice : (choice : Choice) → IsExactChoice w inst s choice → choice.unfit ≡ false
    no_unfit_choice choice (ticket, exact, h) = by choice.stopper choice.unfit refl refl h.stopper
      where
        by : (o : Option ℕ) (u : Bool) → choice.stopper ≡ o → choice.unfit ≡ u → IsFirstStopper w inst ticket 0 (column_count inst) (option_map (λ j. (j, u)) o) → choice.unfit ≡ false
        by None u e f first = h.none_fits e
        by (Some j) false e f first = f
        by (Some j) true e f first = absurd (stops_unfit ticket exact j first.1 first.2)
