-- A solve of a calm instance: no factors are given up, and only want of memory or a spent budget stops it.
use Rattle.std.proofs.Common.{◌≡◌, ◌↔◌, ◌⊎◌, inl, inr, ℕ, ◌+◌, ◌-◌, ◌≤◌, Result, Ok, Err, IfErr, IfOk, OnOk, length, ap, true, false, refl, sym, subst, arith}
use Rattle.bland_ratio.specs.Pricing.{IsChoiceOf, IsExactTicket}
use Rattle.bland_ratio.specs.declared.tickets.Choice.{Choice}
use Rattle.bland_ratio.specs.declared.tickets.Ticket.{Ticket}
use Rattle.exact_frac.specs.Count.{raised}
use Rattle.std.specs.Arc.{arc_value}
use Rattle.lp_model.specs.Log.{moves}
use Rattle.lp_run.specs.Instance.{Instance}
use Rattle.lp_run.specs.Run.{IsRun}
use Rattle.bland_ratio.specs.Entries.{nonzero_costs, stored_entries}
use Rattle.two_phase.specs.Tally.{HasRoundWorked, HasWorked}
use Rattle.two_phase.proofs.Tallies.{whole_work}
use Rattle.factor_run.specs.Bound.{making_work, solve_work}
use Rattle.factor_run.specs.Calm.{IsCalm}
use Rattle.factor_run.proofs.Calmness.{no_unfit_choice, no_unfit_total, stops_unfit}
use Rattle.price_round.specs.Rounds.{NoneUnfit}
use Rattle.two_phase.specs.Board.{AreBuilt, BoardStands, HasGivenUpFor, HasNoCause, IsChoiceFor, IsClosingCause, IsRecordCause, IsSameRun, IsStartCause, IsTicketCause, state_of}
use Rattle.two_phase.specs.Modes.{mode_of}
use Rattle.two_phase.specs.declared.standing.Mode.TheVariants as mode
use Rattle.two_phase.specs.Inner.Grounds.{HasCause, IsPlain, WantsTable}
use Rattle.two_phase.specs.declared.board.Board.{Board}
use Rattle.two_phase.specs.declared.standing.BoardFault.{BoardFault}
use Rattle.two_phase.specs.declared.standing.BoardFault.TheVariants as board
use Rattle.two_phase.specs.declared.standing.Recorded.{Recorded}
use Rattle.two_phase.proofs.Grounds.{plain_mode, reached_by}
use Rattle.two_phase.proofs.Calms.{calm_ground, wants_cause}
use Rattle.two_phase.proofs.Spending.{true_apart}
use Rattle.crew.specs.Inner.Faults.{IsFaultFor}
use Rattle.crew.specs.Inner.Works.{HasRisen, IsCalmFault}
use Rattle.crew.specs.declared.faults.CrewFault.{CrewFault}
use Rattle.crew.specs.declared.faults.CrewFault.TheVariants as fault

-- counts of nothing raise no count
pub nothing_raised : (count n : ℕ) → n ≡ 0 → raised count n ≡ count
nothing_raised count n none = omega (arith, none)

-- ── an overflow raises the count of unfit results ──

-- since an earlier count
pub risen_since : (a b c : ℕ) (f : CrewFault) → a ≤ b → HasRisen b c f → HasRisen a c f
risen_since a b c fault.Memory earlier rose = tt
risen_since a b c (fault.Overflow here) earlier rose = omega (arith, earlier, rose)
risen_since a b c (fault.Budget n) earlier rose = tt

-- and is told of an arithmetic that absorbs one in which it has
pub absorbed_rose : (before after a a' : ℕ) (f : CrewFault) → HasRisen before after f → a' ≡ raised a after → HasRisen a a' f
absorbed_rose before after a a' fault.Memory rose is = tt
absorbed_rose before after a a' (fault.Overflow here) rose is = omega (arith, rose, is)
absorbed_rose before after a a' (fault.Budget n) rose is = tt

pub risen_if : {A : Type 0} (a b c : ℕ) (r : Result A CrewFault) → a ≤ b → IfErr r (HasRisen b c) → IfErr r (HasRisen a c)
risen_if a b c (Ok x) earlier rose = tt
risen_if a b c (Err f) earlier rose = risen_since a b c f earlier rose

-- a budget that is spent is no overflow
pub spent_rose : {A : Type 0} {P : CrewFault → Type 0} (budget a b : ℕ) (r : Result A CrewFault) → ((f : CrewFault) → P f → f ≡ fault.Budget budget) → IfErr r P → IfErr r (HasRisen a b)
spent_rose budget a b (Ok x) is told = tt
spent_rose budget a b (Err f) is told = subst (HasRisen a b) (sym (is f told)) tt

module _ {A : Type 0} (w : ℕ) (b : Board A) (before later : ℕ) where
  pub ticket_rose : (f : BoardFault) (r : CrewFault) → IsTicketCause w b before later f → IsFaultFor f r → HasRisen before later r
  ticket_rose board.Memory r cause is = subst (HasRisen before later) (sym is) tt
  ticket_rose (board.Overflow here) r ((first, rose), wants) is = subst (HasRisen before later) (sym is) rose
  ticket_rose (board.Stale n) r cause is = absurd is
  ticket_rose (board.Ended s) r cause is = absurd is

  pub record_rose : (choice : Choice) (f : BoardFault) (r : CrewFault) → IsRecordCause w b choice before later f → IsFaultFor f r → HasRisen before later r
  record_rose choice board.Memory r cause is = subst (HasRisen before later) (sym is) tt
  record_rose choice (board.Overflow here) r ((first, rose), cause) is = subst (HasRisen before later) (sym is) rose
  record_rose choice (board.Stale n) r cause is = absurd is
  record_rose choice (board.Ended s) r cause is = absurd is

  pub closing_rose : (f : BoardFault) (r : CrewFault) → IsClosingCause w b before later f → IsFaultFor f r → HasRisen before later r
  closing_rose board.Memory r cause is = subst (HasRisen before later) (sym is) tt
  closing_rose (board.Overflow here) r (first, rose) is = subst (HasRisen before later) (sym is) rose
  closing_rose (board.Stale n) r cause is = absurd is
  closing_rose (board.Ended s) r cause is = absurd is

pub start_rose : (w : ℕ) (inst : Instance) (before later : ℕ) (f : BoardFault) (r : CrewFault) → IsStartCause w inst before later f → IsFaultFor f r → HasRisen before later r
start_rose w inst before later board.Memory r cause is = subst (HasRisen before later) (sym is) tt
start_rose w inst before later (board.Overflow here) r (first, rose, unfit) is = subst (HasRisen before later) (sym is) rose
start_rose w inst before later (board.Stale n) r cause is = absurd is
start_rose w inst before later (board.Ended s) r cause is = absurd is

-- a refusal for want of memory
pub memory_told : (f : BoardFault) (r : CrewFault) → f ≡ board.Memory → IsFaultFor f r → IsCalmFault r
memory_told board.Memory r is told = subst IsCalmFault (sym told) tt
memory_told (board.Overflow here) r is told = absurd (cc is)
memory_told (board.Stale n) r is told = absurd told
memory_told (board.Ended s) r is told = absurd told

module _ {A : Type 0} (w : ℕ) (b : Board A) where
  module _ (none : HasNoCause w b) where
    -- the factors stay
    pub calm_stays : (new : Board A) (choice : Choice) → choice.unfit ≡ false → HasGivenUpFor w b new choice → IsPlain new.ground → ⊥
    calm_stays new choice fits given plain = by (given (plain_mode new.ground plain))
      where
        by : HasCause w b.inst.value b.log b.ground ⊎ ((choice.unfit ≡ true) × (choice.number ≡ length b.log)) → ⊥
        by (inl cause) = none cause
        by (inr unfit) = true_apart choice.unfit unfit.0 fits

    pub calm_asked : (new : Board A) → (mode_of new.ground ≡ mode.Plain) ↔ WantsTable w b.inst.value b.ground → IsPlain new.ground → ⊥
    calm_asked new rescued plain = none (wants_cause w b.inst.value b.log b.ground (rescued.0 (plain_mode new.ground plain)))

    pub calm_ticket : (before later : ℕ) (f : BoardFault) (r : CrewFault) → IsTicketCause w b before later f → IsFaultFor f r → IsCalmFault r
    calm_ticket before later board.Memory r cause is = subst IsCalmFault (sym is) tt
    calm_ticket before later (board.Overflow here) r (first, wants) is = absurd (none (wants_cause w b.inst.value b.log b.ground wants))
    calm_ticket before later (board.Stale n) r cause is = absurd is
    calm_ticket before later (board.Ended s) r cause is = absurd is

    pub calm_record : (before later : ℕ) (choice : Choice) → choice.unfit ≡ false → (f : BoardFault) (r : CrewFault) → IsRecordCause w b choice before later f → IsFaultFor f r → IsCalmFault r
    calm_record before later choice fits board.Memory r cause is = subst IsCalmFault (sym is) tt
    calm_record before later choice fits (board.Overflow here) r (first, cause) is = absurd (none (cause fits))
    calm_record before later choice fits (board.Stale n) r cause is = absurd is
    calm_record before later choice fits (board.Ended s) r cause is = absurd is

  module _ (h : BoardStands w b) (calm : IsCalm w b.inst.value) where
    pub no_cause : AreBuilt w b → (IsPlain b.ground → ⊥) → HasNoCause w b
    no_cause along factors = calm_ground w b.inst.value calm b.log b.ground h.stands along factors

    -- no column of an exact ticket is an unfit stopper
    pub none_unfit : (ticket : Ticket) → IsExactTicket b.inst.value (state_of b) ticket → NoneUnfit w b.inst.value ticket
    none_unfit ticket exact = stops_unfit w b.inst.value calm b.log (state_of b) (reached_by w b.inst.value b.log b.ground h.stands) ticket exact

    pub calm_choice : (ticket : Ticket) (choice : Choice) → IsExactTicket b.inst.value (state_of b) ticket → IsChoiceOf w b.inst.value ticket choice → choice.unfit ≡ false
    calm_choice ticket choice exact is = no_unfit_choice w b.inst.value calm b.log (state_of b) (reached_by w b.inst.value b.log b.ground h.stands) choice (ticket, exact, is)

    -- the close stops for want of memory alone
    pub calm_close : (before later : ℕ) (f : BoardFault) → IsClosingCause w b before later f → f ≡ board.Memory
    calm_close before later board.Memory cause = refl
    calm_close before later (board.Overflow here) (first, rose) =
        absurd (no_unfit_total w b.inst.value calm b.log (state_of b) (reached_by w b.inst.value b.log b.ground h.stands) here first)
    calm_close before later (board.Stale n) cause = absurd cause
    calm_close before later (board.Ended s) cause = absurd cause

    pub calm_chosen : (choice : Choice) → IsChoiceFor w b.inst.value (length b.log) choice → choice.unfit ≡ false
    calm_chosen choice (below, s, (front, run, number), exact) = no_unfit_choice w b.inst.value calm front s run choice exact

-- after a ticket
module _ {A : Type 0} (w w' : ℕ) (width : w' ≡ w) (old asked : Board A) (h : BoardStands w old) (calm : IsCalm w old.inst.value) (along : AreBuilt w old) (factors : IsPlain old.ground → ⊥)
    (h' : BoardStands w asked) (same : IsSameRun old asked) (along' : AreBuilt w asked)
    (rescued : (mode_of asked.ground ≡ mode.Plain) ↔ WantsTable w old.inst.value old.ground) where
  calm_there : IsCalm w' asked.inst.value
  calm_there = subst (λ w. IsCalm w asked.inst.value) (sym width) (subst (λ i. IsCalm w i.value) (sym same.instance) calm)

  pub asked_none : HasNoCause w' asked
  asked_none =
      no_cause w' asked (subst (λ w. BoardStands w asked) (sym width) h') calm_there (subst (λ w. AreBuilt w asked) (sym width) along')
      (calm_asked w old (no_cause w old h calm along factors) asked rescued)

  pub asked_fits : (choice : Choice) → IsChoiceFor w' asked.inst.value (length asked.log) choice → choice.unfit ≡ false
  asked_fits choice chosen = calm_chosen w' asked (subst (λ w. BoardStands w asked) (sym width) h') calm_there choice chosen

-- a round on a board of a run that began with the first one
module _ {A : Type 0} (w w' : ℕ) (width : w' ≡ w) (first old new : Board A) (same : old.inst ≡ first.inst) (calm : IsCalm w first.inst.value) where
  pub calm_yet : IsCalm w' old.inst.value
  calm_yet = subst (λ w. IsCalm w old.inst.value) (sym width) (subst (λ i. IsCalm w (arc_value i)) (sym same) calm)

  -- what it works comes to what the rounds before it have worked
  pub round_worked : (before then now : ℕ) (r r' : Recorded) → r ≡ r' → AreBuilt w old → (IsPlain old.ground → ⊥) → HasWorked first.inst.value old.log (length old.log) old.updates before then
      → (IsCalm w' old.inst.value → AreBuilt w' old → (IsPlain old.ground → ⊥) → HasWorked old.inst.value old.log (length old.log) old.updates before then → HasRoundWorked old.inst.value new before now r)
      → HasRoundWorked first.inst.value new before now r'
  round_worked before then now r r' is along factors worked work =
      subst (HasRoundWorked first.inst.value new before now) is
      (subst (λ i. HasRoundWorked (arc_value i) new before now r) same
      (work calm_yet (subst (λ w. AreBuilt w old) (sym width) along) factors (subst (λ i. HasWorked (arc_value i) old.log (length old.log) old.updates before then) (sym same) worked)))

-- two things that hold of an answer
pub both_ok : {A E : Type 0} {P Q R : A → Type 0} (r : Result A E) → ((a : A) → P a → Q a → R a) → IfOk r P → IfOk r Q → IfOk r R
both_ok (Ok a) f p q = f a p q
both_ok (Err e) f p q = p

pub on_ok_all : {A E : Type 0} {P : Type 0} (r : Result A E) → P → OnOk r P
on_ok_all (Ok a) p = p
on_ok_all (Err e) p = tt

-- the run and its close, counted together; the stored entries may be worked once more
pub whole_solve : {A : Type 0} (w : ℕ) (old new : Board A) → new.inst ≡ old.inst → BoardStands w new → (made a₀ b₁ a₁ a₂ : ℕ)
    → HasWorked old.inst.value new.log (length new.log + 1) new.updates (made + a₀) (b₁ + a₁) → made ≤ stored_entries old.inst.value + making_work old.inst.value
    → (moved : ℕ) → moved ≡ moves new.log → a₂ ≤ a₁ + (b₁ + nonzero_costs new.inst.value) → a₂ + stored_entries old.inst.value ≤ a₀ + solve_work old.inst.value moved
whole_solve w old new same stands made a₀ b₁ a₁ a₂ (spent, tally, within) start moved is work =
    let inst = old.inst.value in
    let run : IsRun inst new.log (state_of new) = subst (λ i. IsRun (arc_value i) new.log (state_of new)) same (reached_by w new.inst.value new.log new.ground stands.stands) in
    let close : a₂ ≤ a₁ + (b₁ + nonzero_costs inst) = subst (λ i. a₂ ≤ a₁ + (b₁ + nonzero_costs (arc_value i))) same work in
    let all : a₂ - a₀ + stored_entries inst ≤ solve_work inst (moves new.log) =
    whole_work inst new.log (state_of new) run new.updates made spent (nonzero_costs inst) (a₂ - a₀) tally start (omega arith) (omega (arith, close, within)) in
    let there : solve_work inst (moves new.log) ≡ solve_work inst moved = ap (solve_work inst) (sym is) in
    omega (arith, all, there)
