-- What a session on a board leaves, and what its answers say of the run.
use Rattle.std.proofs.Common.{◌≡◌, ◌≢◌, ℕ, zero, suc, ◌+◌, ◌-◌, ◌<◌, ◌≤◌, List, [], ◌∷◌, ◌++◌, length, length-append, append-nil, Result, Ok, Err, IfErr, IfOk, refl, sym, ◌∙◌, ap, subst, arith, ⊎_elim}
use Rattle.std.specs.Prelude.{OnErr, drop}
use Rattle.std.specs.List.{range_with_len}
use Rattle.std.proofs.lemmas.Bool.{cases_eq}
use Rattle.lp_model.specs.declared.Entry.{Entry}
use Rattle.lp_run.specs.Instance.{Instance}
use Rattle.lp_run.specs.Run.{Leads}
use Rattle.lp_run.specs.State.{State, after, start_of}
use Rattle.bland_ratio.specs.declared.tickets.Choice.{Choice}
use Rattle.counting.specs.Counting.{numbers_between}
use Rattle.two_phase.specs.Board.{BoardStands, IsChoiceFor, IsRecordCause, IsSameRun, IsTicketCause, IsUnmoved, Records, standing_on, state_of}
use Rattle.two_phase.specs.declared.board.Board.{Board}
use Rattle.two_phase.specs.declared.standing.BoardFault.{BoardFault}
use Rattle.two_phase.specs.declared.standing.BoardFault.TheVariants as fault
use Rattle.two_phase.specs.declared.standing.Recorded.{Recorded}
use Rattle.two_phase.specs.declared.standing.Recorded.TheVariants as recorded
use Rattle.two_phase.specs.declared.standing.Standing.{Standing}
use Rattle.two_phase.specs.declared.standing.Standing.TheVariants as standing
use Rattle.two_phase.proofs.Boards.{stands_so}
use Rattle.two_phase.proofs.Grounds.{reached_by}
use Rattle.switch_desk.specs.Answers.{AreEntriesFrom, HasStopped, IsRecordRefusal, IsRecordedAt, IsTicketRefusal, StandsSo, added}
use Rattle.switch_desk.specs.Lineages.{lineage_of}
use Rattle.switch_desk.specs.declared.lineage.Lineage.{Lineage}

-- a session that leaves the number adds nothing to a pass's own
pub unadded : (after held mine : List ℕ) (k k' : ℕ) → after ≡ held ++ numbers_between k k' → held ≡ mine → k' ≡ k → after ≡ mine
unadded after held mine k k' is same number =
    let none : k' - k ≡ 0 = omega (arith, number) in
    is ∙ ap (λ n. held ++ range_with_len k n) none ∙ append-nil held ∙ same

-- a choice for a number is one for each later number
pub later_choice : (l l' : Lineage) (k k' : ℕ) (choice : Choice) → l' ≡ l → k ≤ k' → IsChoiceFor l.width l.inst k choice → IsChoiceFor l'.width l'.inst k' choice
later_choice l l' k k' choice same later (below, s, there, exact) = subst (λ l. IsChoiceFor l.width l.inst k' choice) (sym same) (omega (arith, below, later), s, there, exact)

on_err : {A E : Type 0} {P Q : E → Type 0} (r : Result A E) → ((e : E) → P e → Q e) → IfErr r P → IfErr r Q
on_err (Ok a) f h = h
on_err (Err e) f h = f e h

-- ── the entries from a number on ──

split_at : (inst : Instance) (log : List Entry) (s t : State) (k : ℕ) → k ≤ length log → Leads inst s log t
    → (u : State) × (front : List Entry) × Leads inst s front u × (length front ≡ k) × Leads inst u (drop k log) t × (k + length (drop k log) ≡ length log)
split_at inst [] s t zero within leads = (s, [], refl, refl, leads, refl)
split_at inst (e ∷ log) s t zero within leads = (s, [], refl, refl, leads, omega arith)
split_at inst [] s t (suc k) within leads = absurd (omega (arith, within))
split_at inst (e ∷ log) s t (suc k) within leads =
    let r = split_at inst log (after s e) t k (omega (arith, within)) leads.1 in
    (r.0, e ∷ r.1, (leads.0, r.2), omega (arith, r.3), r.4, omega (arith, r.5))

module _ {A : Type 0} (width : A → ℕ) (b : Board A) (h : BoardStands (width b.arith) b) where
  entries_from : (k : ℕ) → k ≤ length b.log → (log : List Entry) → log ≡ drop k b.log → AreEntriesFrom b.inst.value k (length b.log) log
  entries_from k within log is =
      let inst = b.inst.value in
      let r = split_at inst b.log (start_of inst) (state_of b) k within (reached_by (width b.arith) inst b.log b.ground h.stands) in
      (r.0, state_of b, (r.1, r.2, r.3), subst (λ l. Leads inst r.0 l (state_of b)) (sym is) r.4, ap (λ l. k + length l) is ∙ r.5)

  pub entries_on : {E : Type 0} (k : ℕ) → k ≤ length b.log → (r : Result (List Entry) E) → IfOk r (λ log. log ≡ drop k b.log) → IfOk r (AreEntriesFrom b.inst.value k (length b.log))
  entries_on k within (Ok log) is = entries_from k within log is
  entries_on k within (Err e) is = tt

  -- ── how it stands, and why a call is refused ──

  pub stands_now : StandsSo (lineage_of width b) (length b.log) (standing_on b)
  stands_now = (state_of b, (b.log, reached_by (width b.arith) b.inst.value b.log b.ground h.stands, refl), stands_so (width b.arith) b h)

  stopped : (s : Standing) → s ≡ standing_on b → s ≢ standing.Running → HasStopped (lineage_of width b) (length b.log) s
  stopped s is apart = (apart, subst (StandsSo (lineage_of width b) (length b.log)) (sym is) stands_now)

  ticket_refusal : (before after : ℕ) (f : BoardFault) → IsTicketCause (width b.arith) b before after f → IsTicketRefusal (lineage_of width b) (length b.log) f
  ticket_refusal before after fault.Memory cause = tt
  ticket_refusal before after (fault.Overflow here) cause = (b.log, cause.0.0.0, cause.0.0.1, refl, cause.0.0.2)
  ticket_refusal before after (fault.Stale n) cause = absurd cause
  ticket_refusal before after (fault.Ended s) cause = stopped s cause.0 cause.1

  pub ticket_refused : {T : Type 0} (before after : ℕ) (r : Result T BoardFault) → IfErr r (IsTicketCause (width b.arith) b before after) → IfErr r (IsTicketRefusal (lineage_of width b) (length b.log))
  ticket_refused before after r h = on_err r (λ f cause. ticket_refusal before after f cause) h

  module _ (new : Board A) (choice : Choice) where
    record_refusal : (before after : ℕ) (f : BoardFault) → IsRecordCause (width b.arith) b choice before after f → IsRecordRefusal (lineage_of width b) (length b.log) choice f
    record_refusal before after fault.Memory cause = tt
    record_refusal before after (fault.Overflow here) cause = (b.log, cause.0.0.0, cause.0.0.1, refl, cause.0.0.2)
    record_refusal before after (fault.Stale n) cause = (cause.1, subst (λ n. choice.number < n) cause.1 cause.2)
    record_refusal before after (fault.Ended s) cause = stopped s cause.0 cause.1

    pub record_refused : (before after : ℕ) (r : Result Recorded BoardFault) → OnErr r (IsUnmoved b new) → IfErr r (IsRecordCause (width b.arith) b choice before after)
        → IfErr r (IsRecordRefusal (lineage_of width b) (length new.log) choice)
    record_refused before after (Ok x) unmoved cause = cause
    record_refused before after (Err f) unmoved cause = subst (λ l. IsRecordRefusal (lineage_of width b) (length l) choice f) (sym unmoved.log) (record_refusal before after f cause)

-- ── what a record comes to ──

still_running : (s : Standing) → ((s ≢ standing.Running) → ⊥) → s ≡ standing.Running
still_running standing.Running apart = refl
still_running standing.Optimal apart = absurd (apart (λ e. cc e))
still_running standing.Infeasible apart = absurd (apart (λ e. cc e))
still_running standing.Unbounded apart = absurd (apart (λ e. cc e))
still_running standing.Spent apart = absurd (apart (λ e. cc e))

module _ {A : Type 0} (width : A → ℕ) (old new : Board A) (choice : Choice) (below : choice.number ≤ length old.log) where
  -- it is of a choice of the board's own number
  own_number : (x : Recorded) (r : Result Recorded BoardFault) → r ≡ Ok x → (standing_on old ≢ standing.Running → r ≡ Err (fault.Ended (standing_on old)))
      → (standing_on old ≡ standing.Running → choice.number < length old.log → r ≡ Err (fault.Stale (length old.log))) → choice.number ≡ length old.log
  own_number x r is ended stale =
      let running = still_running (standing_on old) (λ apart. cc (sym is ∙ ended apart)) in
      ⊎_elim (λ same. same) (λ ne. absurd (cc (sym is ∙ stale running (omega (arith, below, ne))))) (cases_eq choice.number (length old.log))

longer : (log log' : List Entry) (e : Entry) → log' ≡ log ++ e ∷ [] → length log' ≡ length log + 1
longer log log' e is = ap (λ l. length l) is ∙ length-append log (e ∷ [])

none_between : (k k' : ℕ) → k' ≡ k → numbers_between k k' ≡ []
none_between k k' same = let none : k' - k ≡ 0 = omega (arith, same) in ap (λ n. range_with_len k n) none

one_between : (k k' c : ℕ) → k' ≡ k + 1 → c ≡ k → numbers_between k k' ≡ c ∷ []
one_between k k' c more own = let one : k' - k ≡ 1 = omega (arith, more) in ap (λ n. range_with_len k n) one ∙ ap (λ n. n ∷ []) (sym own)

module _ {A : Type 0} (width : A → ℕ) (old new : Board A) (choice : Choice) (below : choice.number ≤ length old.log) where
  pub record_added : (r : Result Recorded BoardFault) → IfOk r (Records old new choice) → OnErr r (IsUnmoved old new)
      → (standing_on old ≢ standing.Running → r ≡ Err (fault.Ended (standing_on old))) → (standing_on old ≡ standing.Running → choice.number < length old.log → r ≡ Err (fault.Stale (length old.log)))
      → numbers_between (length old.log) (length new.log) ≡ added r choice.number
  record_added (Ok (recorded.Entry e)) records unmoved ended stale =
      one_between (length old.log) (length new.log) choice.number (longer old.log new.log e records.1) (own_number width old new choice below (recorded.Entry e) (Ok (recorded.Entry e)) refl ended stale)
  record_added (Ok recorded.Rescued) records unmoved ended stale = none_between (length old.log) (length new.log) (ap (λ l. length l) records.3.log)
  record_added (Ok (recorded.Ended s)) records unmoved ended stale = none_between (length old.log) (length new.log) (ap (λ l. length l) records.2)
  record_added (Err f) records unmoved ended stale = none_between (length old.log) (length new.log) (ap (λ l. length l) unmoved.log)

  pub record_comes : BoardStands (width old.arith) old → BoardStands (width new.arith) new → lineage_of width new ≡ lineage_of width old
      → (r : Result Recorded BoardFault) → IfOk r (Records old new choice)
      → (standing_on old ≢ standing.Running → r ≡ Err (fault.Ended (standing_on old))) → (standing_on old ≡ standing.Running → choice.number < length old.log → r ≡ Err (fault.Stale (length old.log)))
      → IfOk r (IsRecordedAt (lineage_of width old) (length new.log) choice)
  record_comes h h' same (Ok (recorded.Entry e)) records ended stale =
      let own = own_number width old new choice below (recorded.Entry e) (Ok (recorded.Entry e)) refl ended stale in
      (state_of old, (old.log, reached_by (width old.arith) old.inst.value old.log old.ground h.stands, sym own), records.0, longer old.log new.log e records.1 ∙ ap (λ k. k + 1) (sym own))
  record_comes h h' same (Ok recorded.Rescued) records ended stale =
      (records.0, own_number width old new choice below recorded.Rescued (Ok recorded.Rescued) refl ended stale ∙ sym (ap (λ l. length l) records.3.log))
  record_comes h h' same (Ok (recorded.Ended s)) records ended stale =
      (records.0, subst (λ l. StandsSo l (length new.log) s) same (subst (StandsSo (lineage_of width new) (length new.log)) records.1 (stands_now width new h')))
  record_comes h h' same (Err f) records ended stale = tt

-- the same run, and the same width: one lineage
pub one_lineage : {A : Type 0} (width : A → ℕ) (old new : Board A) → IsSameRun old new → width new.arith ≡ width old.arith → lineage_of width new ≡ lineage_of width old
one_lineage width old new same is =
    ap (λ i. record { inst = i.value; budget = new.budget; width = width new.arith }) same.instance
    ∙ ap (λ n. record { inst = old.inst.value; budget = n; width = width new.arith }) same.budget
    ∙ ap (λ w. record { inst = old.inst.value; budget = old.budget; width = w }) is
