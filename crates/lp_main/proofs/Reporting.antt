-- From what the solver answers to what a report, or a refusal, says of the deck.
use Rattle.std.proofs.Common.{◌≡◌, ℕ, List, length, Some, refl, sym, ◌∙◌, ap, subst}
use Rattle.std.specs.Prelude.{IfErr, IfOk, MatchResult, Result, Ok, Err}
use Rattle.std.proofs.lemmas.List.{length-map}
use Rattle.lp_model.specs.declared.Place.{Place}
use Rattle.lp_model.specs.declared.Sense.{Sense}
use Rattle.lp_model.specs.declared.Sense.TheVariants as sense
use Rattle.lp_model.specs.Deck.{Deck, IsDeck}
use Rattle.lp_model.specs.Outcome.{Outcome, infeasible, optimal, unbounded}
use Rattle.rational.specs.Rational.{ℚ, neg_ℚ}
use Rattle.rational.proofs.VectorLaws.{length-map-upto}
use Rattle.lp_run.specs.Ends.{HasOutcome, prices_in}
use Rattle.lp_run.specs.Instance.{Instance, instance_of, structural_count}
use Rattle.lp_run.specs.Listing.{Overflows, first_unfit, start_listing}
use Rattle.lp_run.specs.Run.{IsRun}
use Rattle.lp_run.specs.State.{State}
use Rattle.factor_run.specs.Calm.{IsCalm}
use Rattle.bland_laws.proofs.OfDeck.{row_count_is, structural_count_is, well_formed}
use Rattle.bland_laws.proofs.OutcomeProves.{outcome_proves}
use Rattle.deck_model.specs.Outcome.{HasLengthsOf, outcome_of}
use Rattle.lp_text.specs.Report.{Report}
use Rattle.two_phase.specs.declared.board.Closed.{Closed}
use Rattle.crew.specs.declared.faults.CrewFault.TheVariants as fault
use Rattle.crew.specs.Answers.{HasClosed, IsCause as IsCrewCause}
use Rattle.crew.proofs.Complete.{spent_below, start_overflows}
use Rattle.plain_table.specs.Answers.{IsRunLog}
use Rattle.lp_main.specs.declared.refusal.Refusal.{Refusal}
use Rattle.lp_main.specs.declared.refusal.Refusal.TheVariants as refusal
use Rattle.lp_main.specs.declared.words.Asked.{Asked}
use Rattle.lp_main.specs.Inner.Solving.{IsReportCause, IsReportOf}
use Rattle.lp_main.specs.Solves.{stated}
use Rattle.lp_main.proofs.Truly.{is_true}
use Rattle.lp_main.proofs.Working.{start_not_calm}

-- ── the outcome's lists ──

-- the prices as the sense counts them are as many
prices_length : (s : Sense) (y : List ℚ) → length (prices_in s y) ≡ length y
prices_length sense.Min y = refl
prices_length sense.Max y = length-map y neg_ℚ

-- the log of what a run comes to is a run
pub closed_run : (inst : Instance) (closed : Closed) (budget : ℕ) → HasClosed inst budget closed → IsRunLog inst closed.log
closed_run inst closed budget has = (has.outcome.0, has.outcome.1)

-- what the making of a report answers
abbrev pub Reported : Asked → Instance → Closed → Result Report Refusal → Type 0
Reported asked inst closed result =
    MatchResult result (λ report. (last : State) × IsRun inst closed.log last × (report ≡ stated asked closed.log (outcome_of closed.outcome) last)) (λ e. e ≡ refusal.Memory)

pub report_or_memory : (asked : Asked) (inst : Instance) (closed : Closed) (w : ℕ) (d : Deck) (result : Result Report Refusal) → Reported asked inst closed result
    → IfErr result (IsReportCause asked w d)
report_or_memory asked inst closed w d (Ok report) h = tt
report_or_memory asked inst closed w d (Err e) h = subst (IsReportCause asked w d) (sym h) tt

module _ (d : Deck) (deck : IsDeck d) where
  -- a number for each column, and for each row
  lengths_are : (o : Outcome) (log : _) → HasOutcome (instance_of d) log o → HasLengthsOf d o
  lengths_are (optimal x y v) log (s, run, (z, β, ends, is_y, is_x, is_v)) = (
    ap length is_x ∙ length-map-upto _ (structural_count (instance_of d)) ∙ structural_count_is d deck,
    ap length is_y ∙ prices_length (instance_of d).sense z ∙ ends.1.prices.one_each ∙ row_count_is d deck,
  )
  lengths_are (infeasible y) log (s, run, (β, ends)) = ends.1.prices.one_each ∙ row_count_is d deck
  lengths_are (unbounded x r) log (s, run, (y, β, α, q, ends, is_x, is_r)) = (
    ap length is_x ∙ length-map-upto _ (structural_count (instance_of d)) ∙ structural_count_is d deck,
    ap length is_r ∙ length-map-upto _ (structural_count (instance_of d)) ∙ structural_count_is d deck,
  )

  -- ── what the solver answers of the deck's instance ──

  report_there : (asked : Asked) (inst : Instance) → inst ≡ instance_of d → (closed : Closed) → HasClosed inst asked.budget closed → (last : State) → IsRun inst closed.log last
      → (report : Report) → report ≡ stated asked closed.log (outcome_of closed.outcome) last → IsReportOf asked d report
  report_there asked inst same closed has last run report is =
      let o = outcome_of closed.outcome in
      let outcome = subst (λ inst. HasOutcome inst closed.log o) same has.outcome in
      subst (IsReportOf asked d) (sym is)
      (record {
        log = closed.log;
        last = last;
        solved = record { outcome = outcome; within = has.within; truth = is_true d o (outcome_proves d deck closed.log o outcome) };
        run = subst (λ inst. IsRun inst closed.log last) same run;
        is = refl;
        lengths = lengths_are o closed.log outcome;
      })

  pub report_is : (asked : Asked) (inst : Instance) → inst ≡ instance_of d → (closed : Closed) → HasClosed inst asked.budget closed
      → (result : Result Report Refusal) → Reported asked inst closed result → IfOk result (IsReportOf asked d)
  report_is asked inst same closed has (Ok report) (last, run, is) = report_there asked inst same closed has last run report is
  report_is asked inst same closed has (Err e) h = tt

  module _ (asked : Asked) (w : ℕ) (inst : Instance) (same : inst ≡ instance_of d) where
    pub overflow_cause : (here : Place) → Overflows w asked.budget inst here → (¬ IsCalm w inst) → IsReportCause asked w d (refusal.Overflow here)
    overflow_cause here h wide = (subst (λ inst. Overflows w asked.budget inst here) same h, subst (λ inst. ¬ IsCalm w inst) same wide)

    pub budget_cause : (n : ℕ) → IsCrewCause w inst asked.budget (fault.Budget n) → IsReportCause asked w d (refusal.Budget n)
    budget_cause n h =
        let there = subst (λ inst. IsCrewCause w inst asked.budget (fault.Budget n)) same h in
        (there.0, there.1, spent_below (instance_of d) (well_formed d deck) asked.budget there.1)

  pub start_cause : (asked : Asked) (w : ℕ) (here : Place) → first_unfit w (start_listing (instance_of d)) ≡ Some here → IsReportCause asked w d (refusal.Overflow here)
  start_cause asked w here first = (start_overflows w asked.budget (instance_of d) here (well_formed d deck) first, start_not_calm w d here first)
