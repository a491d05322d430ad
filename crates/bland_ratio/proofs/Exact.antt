-- What an exact ticket and an exact choice say of the state.
use Rattle.std.proofs.Common.{◌≡◌, ℕ, ◌<◌, ◌⊎◌, ◌↔◌, inl, inr, true, false, List, Option, Some, None, MatchOption, get_or, refl, sym, ◌∙◌, ap, subst, arith}
use Rattle.std.specs.Prelude.{IsFalse}
use Rattle.std.specs.Option.{option_map}
use Rattle.lp_model.specs.declared.Phase.{Phase}
use Rattle.lp_model.specs.declared.Status.TheVariants as status
use Rattle.rational.specs.Rational.{ℚ}
use Rattle.rational.specs.Sum.{at}
use Rattle.rational.specs.Worked.{settle}
use Rattle.rational.proofs.Settling.{settle-answer}
use Rattle.lp_run.specs.Instance.{Instance, IsWellFormed, bounds, column_count}
use Rattle.lp_run.specs.Solution.{Prices, reduced}
use Rattle.lp_run.specs.State.{State, status_of}
use Rattle.lp_run.specs.Step.{Eligible, Enters, Improves, NoneEligible, is_fixed}
use Rattle.bland_ratio.specs.declared.tickets.Choice.{Choice}
use Rattle.bland_ratio.specs.declared.tickets.Pay.{Pay}
use Rattle.bland_ratio.specs.declared.tickets.Pay.TheVariants as pay
use Rattle.bland_ratio.specs.declared.tickets.Ticket.{Ticket}
use Rattle.bland_ratio.specs.Pricing.{ChoiceEnters, HasCost, HasUnfitCost, IsChoiceOf, IsEligibleAt, IsExactChoice, IsExactPay, IsExactTicket, IsFirstStopper, NoneStops, priced, status_at}
use Rattle.bland_ratio.proofs.Priced.{priced-answer}
use Rattle.bland_ratio.proofs.Stopping.{not_basic}

-- a column has a reduced cost, or a value that is worked for it does not fit
cost_or_unfit : (w : ℕ) (inst : Instance) (phase : Phase) (p : Pay) (j : ℕ) → ((d : ℚ) × HasCost w inst phase p j d) ⊎ HasUnfitCost w inst phase p j
cost_or_unfit w inst phase (pay.Prices y) j = by (settle w (priced inst phase y j)) refl
  where
    by : (o : Option ℚ) → settle w (priced inst phase y j) ≡ o → ((d : ℚ) × (settle w (priced inst phase y j) ≡ Some d)) ⊎ (settle w (priced inst phase y j) ≡ None)
    by None e = inr e
    by (Some d) e = inl (d, e)
cost_or_unfit w inst phase (pay.Costs costs) j = inl (at costs j, refl)

module _ (inst : Instance) (well_formed : IsWellFormed inst) (s : State) (ticket : Ticket) (exact : IsExactTicket inst s ticket) where
  -- the reduced costs of an exact ticket are those at the prices of the state
  pub exact_costs : (y : List ℚ) × Prices inst s y × ((w j : ℕ) (d : ℚ) → j < column_count inst → HasCost w inst ticket.phase ticket.pay j d → d ≡ reduced inst s y j)
  exact_costs = by ticket.pay exact.exact
    where
      by : (p : Pay) → IsExactPay inst s p → (y : List ℚ) × Prices inst s y × ((w j : ℕ) (d : ℚ) → j < column_count inst → HasCost w inst ticket.phase p j d → d ≡ reduced inst s y j)
      by (pay.Prices y) prices = (
        y,
        prices,
        λ w j d below cost.
            sym (settle-answer w (priced inst ticket.phase y j) d cost) ∙ ap (λ phase. (priced inst phase y j).answer) exact.phase ∙ priced-answer inst well_formed s y j below,
      )
      by (pay.Costs costs) (long, (y, prices, each)) = (y, prices, λ w j d below cost. sym cost ∙ each j below)

  same_status : (j : ℕ) → status_at ticket j ≡ status_of s j
  same_status j = ap (λ statuses. get_or statuses j status.Lower) exact.statuses

  -- a column may enter by the ticket exactly where it may at the state
  pub eligible_there : (y : List ℚ) (j : ℕ) (d : ℚ) → j < column_count inst → d ≡ reduced inst s y j → IsEligibleAt inst ticket j d ↔ Eligible inst s y j
  eligible_there y j d below same = (
    λ h. record {
      in_range = below;
      ends_differ = subst (λ phase. IsFalse (is_fixed (bounds inst phase j))) exact.phase h.0;
      improves = subst (λ st. Improves st (reduced inst s y j)) (same_status j) (subst (Improves (status_at ticket j)) same h.1);
    },
    λ h. (
      subst (λ phase. IsFalse (is_fixed (bounds inst phase j))) (sym exact.phase) h.ends_differ,
      subst (Improves (status_at ticket j)) (sym same) (subst (λ st. Improves st (reduced inst s y j)) (sym (same_status j)) h.improves),
    ),
  )

  module _ (w : ℕ) where
    -- where no column below an index is a stopper, none may enter
    none_enters : (y : List ℚ) → ((w j : ℕ) (d : ℚ) → j < column_count inst → HasCost w inst ticket.phase ticket.pay j d → d ≡ reduced inst s y j)
        → (to : ℕ) → NoneStops w inst ticket 0 to → (j : ℕ) → j < to → Eligible inst s y j → ⊥
    none_enters y costs to none j below h = by (cost_or_unfit w inst ticket.phase ticket.pay j)
      where
        there : (d : ℚ) → d ≡ reduced inst s y j → IsEligibleAt inst ticket j d
        there d same = (eligible_there y j d h.in_range same).1 h

        by : ((d : ℚ) × HasCost w inst ticket.phase ticket.pay j d) ⊎ HasUnfitCost w inst ticket.phase ticket.pay j → ⊥
        by (inl (d, cost)) = none j (omega arith) below false (d, cost, there d (costs w j d h.in_range cost))
        by (inr unfit) =
            let eligible = there (reduced inst s y j) refl in
            none j (omega arith) below true ((eligible.0, not_basic (status_at ticket j) (reduced inst s y j) eligible.1), unfit)

    -- a choice that is not unfit has the entering column, or none may enter
    pub choice_enters : (choice : Choice) → IsChoiceOf w inst ticket choice → choice.unfit ≡ false → (y : List ℚ) × Prices inst s y
        × MatchOption choice.stopper (NoneEligible inst s y) (Enters inst s y)
    choice_enters choice is fit =
        let (y, prices, costs) = exact_costs in
        (y, prices, by y costs choice.stopper (subst (λ unfit. IsFirstStopper w inst ticket 0 (column_count inst) (option_map (λ j. (j, unfit)) choice.stopper)) fit is.stopper))
      where
        by : (y : List ℚ) → ((w j : ℕ) (d : ℚ) → j < column_count inst → HasCost w inst ticket.phase ticket.pay j d → d ≡ reduced inst s y j)
            → (stopper : Option ℕ) → IsFirstStopper w inst ticket 0 (column_count inst) (option_map (λ j. (j, false)) stopper) → MatchOption stopper (NoneEligible inst s y) (Enters inst s y)
        by y costs None none = λ j h. none_enters y costs (column_count inst) none j h.in_range h
        by y costs (Some q) (from, below, (d, cost, eligible), least) = record {
          eligible = (eligible_there y q d below (costs w q d below cost)).0 eligible;
          least = none_enters y costs q least;
        }

-- an exact choice that is not unfit has the entering column, or none may enter
pub exact_choice_enters : (w : ℕ) (inst : Instance) (s : State) (choice : Choice) → IsWellFormed inst → IsExactChoice w inst s choice → choice.unfit ≡ false
    → ChoiceEnters inst s choice
exact_choice_enters w inst s choice well_formed (ticket, exact, is) fit = choice_enters inst well_formed s ticket exact w choice is fit
