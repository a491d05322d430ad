-- A solve by rounds on a board: what is asked of each, why it stops, and that it is short.
use Rattle.std.proofs.Common.{◌≡◌, ℕ, ◌+◌, ◌-◌, ◌*◌, ◌<◌, inl, inr, [], ◌∷◌, ◌++◌, Result, Ok, Err, IfErr, length, refl, sym, ◌∙◌, ap, subst, arith}
use Rattle.lp_model.specs.declared.Entry.{Entry}
use Rattle.lp_run.specs.Instance.{Instance}
use Rattle.lp_run.specs.Run.{IsSpent}
use Rattle.bland_laws.specs.Ends.{run_bound}
use Rattle.bland_ratio.specs.Pricing.{IsChoiceOf, IsExactTicket, IsTicketOf}
use Rattle.bland_ratio.specs.declared.tickets.Choice.{Choice}
use Rattle.bland_ratio.specs.declared.tickets.Ticket.{Ticket}
use Rattle.two_phase.specs.Board.{BoardStands, IsChoiceFor, IsClosingCause, IsRecordCause, IsSameRun, IsStandingOf, IsStartCause, IsTicketCause, IsUnmoved, standing_on, state_of}
use Rattle.two_phase.specs.Spent.{IsSpentAt}
use Rattle.two_phase.specs.Inner.Grounds.{Asks, GroundStands}
use Rattle.two_phase.specs.declared.board.Board.{Board}
use Rattle.two_phase.specs.declared.standing.BoardFault.{BoardFault}
use Rattle.two_phase.specs.declared.standing.BoardFault.TheVariants as board
use Rattle.two_phase.specs.declared.standing.Standing.{Standing}
use Rattle.two_phase.specs.declared.standing.Standing.TheVariants as standing
use Rattle.two_phase.proofs.Boards.{stands_so}
use Rattle.two_phase.proofs.Grounds.{reached_by}
use Rattle.two_phase.proofs.Rounds.{exact_ticket, left, nearer}
use Rattle.crew.specs.Answers.{IsCause}
use Rattle.crew.specs.Inner.Faults.{IsFaultFor, IsHandedOn}
use Rattle.crew.specs.declared.faults.CrewFault.{CrewFault}
use Rattle.crew.specs.declared.faults.CrewFault.TheVariants as fault

module _ {A : Type 0} (w : ℕ) (b : Board A) (h : BoardStands w b) where
  -- ── what is asked ──

  pub ticket_of : (ticket : Ticket) → IsExactTicket b.inst.value (state_of b) ticket → IsTicketOf b.inst.value ticket
  ticket_of ticket exact = exact_ticket w b.inst.value h.well_formed b.log b.ground h.stands ticket exact

  pub choice_for : (ticket : Ticket) (choice : Choice) → IsExactTicket b.inst.value (state_of b) ticket → ticket.number ≡ length b.log → IsChoiceOf w b.inst.value ticket choice → IsChoiceFor w b.inst.value (length b.log) choice
  choice_for ticket choice exact number is =
      (omega (arith, is.number, number), state_of b, (b.log, reached_by w b.inst.value b.log b.ground h.stands, sym (is.number ∙ number)), (ticket, exact, is))

  -- ── why it stops ──

  module _ (before later : ℕ) where
    pub ticket_handed_on : standing_on b ≡ standing.Running → (f : BoardFault) → IsTicketCause w b before later f → IsHandedOn f
    ticket_handed_on running board.Memory cause = tt
    ticket_handed_on running (board.Overflow here) cause = tt
    ticket_handed_on running (board.Stale n) cause = absurd cause
    ticket_handed_on running (board.Ended s) cause = absurd (cause.1 (cause.0 ∙ running))

    pub ticket_fault : (f : BoardFault) (r : CrewFault) → IsTicketCause w b before later f → IsFaultFor f r → IsCause w b.inst.value b.budget r
    ticket_fault board.Memory r cause is = subst (IsCause w b.inst.value b.budget) (sym is) tt
    ticket_fault (board.Overflow here) r (((s, run, first), rose), cause) is = subst (IsCause w b.inst.value b.budget) (sym is) (b.log, s, run, h.within, inl first)
    ticket_fault (board.Stale n) r cause is = absurd is
    ticket_fault (board.Ended s) r cause is = absurd is

    pub record_handed_on : (choice : Choice) → standing_on b ≡ standing.Running → choice.number ≡ length b.log → (f : BoardFault) → IsRecordCause w b choice before later f → IsHandedOn f
    record_handed_on choice running number board.Memory cause = tt
    record_handed_on choice running number (board.Overflow here) cause = tt
    record_handed_on choice running number (board.Stale n) (goes, is, earlier) = absurd (omega (arith, number, is, earlier))
    record_handed_on choice running number (board.Ended s) cause = absurd (cause.1 (cause.0 ∙ running))

    pub record_fault : (choice : Choice) (f : BoardFault) (r : CrewFault) → IsRecordCause w b choice before later f → IsFaultFor f r → IsCause w b.inst.value b.budget r
    record_fault choice board.Memory r cause is = subst (IsCause w b.inst.value b.budget) (sym is) tt
    record_fault choice (board.Overflow here) r (((s, run, first), rose), cause) is = subst (IsCause w b.inst.value b.budget) (sym is) (b.log, s, run, h.within, inl first)
    record_fault choice (board.Stale n) r cause is = absurd is
    record_fault choice (board.Ended s) r cause is = absurd is

    pub closing_handed_on : (f : BoardFault) → IsClosingCause w b before later f → IsHandedOn f
    closing_handed_on board.Memory cause = tt
    closing_handed_on (board.Overflow here) cause = tt
    closing_handed_on (board.Stale n) cause = absurd cause
    closing_handed_on (board.Ended s) cause = absurd cause

    pub closing_fault : (f : BoardFault) (r : CrewFault) → IsClosingCause w b before later f → IsFaultFor f r → IsCause w b.inst.value b.budget r
    closing_fault board.Memory r cause is = subst (IsCause w b.inst.value b.budget) (sym is) tt
    closing_fault (board.Overflow here) r (first, rose) is =
        subst (IsCause w b.inst.value b.budget) (sym is) (b.log, state_of b, reached_by w b.inst.value b.log b.ground h.stands, h.within, inr first)
    closing_fault (board.Stale n) r cause is = absurd is
    closing_fault (board.Ended s) r cause is = absurd is

  -- a budget that is spent
  pub spent_cause : standing_on b ≡ standing.Spent → (f : CrewFault) (budget : ℕ) → b.budget ≡ budget → f ≡ fault.Budget budget → IsCause w b.inst.value budget f
  spent_cause spent f budget same is =
      subst (IsCause w b.inst.value budget) (sym is)
      (refl, subst (IsSpent b.inst.value) same (by (subst (IsStandingOf b.inst.value b.budget (length b.log) (state_of b)) spent (stands_so w b h))))
    where
      by : IsSpentAt b.inst.value b.budget (length b.log) (state_of b) → IsSpent b.inst.value b.budget
      by (log, e, run, number, count, next, is) = (log, state_of b, e, run, next, is, count)

-- an end that is none because the budget is spent
pub ended_cause : {A X : Type 0} (w : ℕ) (b : Board A) → BoardStands w b → (inst : Instance) → b.inst.value ≡ inst → (budget : ℕ) → b.budget ≡ budget → (s : Standing) → standing_on b ≡ s
    → (r : Result X CrewFault) → IfErr r (λ f. (f ≡ fault.Budget budget) × (s ≡ standing.Spent)) → IfErr r (IsCause w inst budget)
ended_cause w b h inst is budget same s there (Ok x) told = tt
ended_cause w b h inst is budget same s there (Err f) told = subst (λ i. IsCause w i budget f) is (spent_cause w b h (there ∙ told.1) f budget same told.0)

-- a ticket of a board whose mode may have changed since, and its choice
module _ {A : Type 0} (w : ℕ) (old new : Board A) (h : BoardStands w new) (same : IsSameRun old new) (unmoved : IsUnmoved old new) (ticket : Ticket)
    (asks : Asks old.inst.value old.log new.ground ticket) (i : Instance) (is : i ≡ new.inst.value) where
  pub exact_now : IsExactTicket new.inst.value (state_of new) ticket
  exact_now = subst (λ a. IsExactTicket a.value (state_of new) ticket) (sym same.instance) asks.exact

  pub asked : IsTicketOf i ticket
  asked = subst (λ i. IsTicketOf i ticket) (sym is) (ticket_of w new h ticket exact_now)

  pub chosen_for : (u v : ℕ) → u ≡ w → v ≡ w → (choice : Choice) → IsChoiceOf u i ticket choice → IsChoiceFor v new.inst.value (length new.log) choice
  chosen_for u v width there choice chosen =
      subst (λ v. IsChoiceFor v new.inst.value (length new.log) choice) (sym there)
      (choice_for w new h ticket choice exact_now (asks.number ∙ ap length (sym unmoved.log)) (subst (λ u. IsChoiceOf u new.inst.value ticket choice) width (subst (λ i. IsChoiceOf u i ticket choice) is chosen)))

-- no board is made
module _ (w : ℕ) (inst : Instance) (before later : ℕ) where
  pub start_handed_on : (f : BoardFault) → IsStartCause w inst before later f → IsHandedOn f
  start_handed_on board.Memory cause = tt
  start_handed_on (board.Overflow here) cause = tt
  start_handed_on (board.Stale n) cause = absurd cause
  start_handed_on (board.Ended s) cause = absurd cause

  pub start_fault : (budget : ℕ) (f : BoardFault) (r : CrewFault) → IsStartCause w inst before later f → IsFaultFor f r → IsCause w inst budget r
  start_fault budget board.Memory r cause is = subst (IsCause w inst budget) (sym is) tt
  start_fault budget (board.Overflow here) r ((s, run, first), rose, unfit) is = subst (IsCause w inst budget) (sym is) ([], s, run, omega arith, inl first)
  start_fault budget (board.Stale n) r cause is = absurd is
  start_fault budget (board.Ended s) r cause is = absurd is

-- ── that it is short ──

module _ {A : Type 0} (w : ℕ) where
  abbrev pub measure : Board A → ℕ
  measure b = 2 * (run_bound b.inst.value - length b.log) + left b.ground

  pub entry_nearer : (old new : Board A) → BoardStands w old → BoardStands w new → new.inst ≡ old.inst → (e : Entry) → new.log ≡ old.log ++ e ∷ [] → measure new < measure old
  entry_nearer old new h h' same e is =
      subst (λ i. 2 * (run_bound i.value - length new.log) + left new.ground < measure old) (sym same)
      (nearer w old.inst.value h.well_formed old.log new.log e old.ground new.ground is (subst (λ i. GroundStands w i.value new.log new.ground) same h'.stands))
