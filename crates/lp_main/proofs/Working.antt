-- From what the solver works to what a call of the program does.
use Rattle.std.proofs.Common.{◌≡◌, ◌≢◌, ℕ, ◌+◌, ◌≤◌, List, Option, Some, None, Result, Ok, Err, refl, sym, ◌∙◌, subst, inl, inr, arith}
use Rattle.std.specs.Prelude.{IfOk, IfSome, IsErrAnd}
use Rattle.lp_model.specs.declared.Place.{Place}
use Rattle.lp_model.specs.Deck.{Deck}
use Rattle.lp_run.specs.Instance.{Instance, instance_of}
use Rattle.lp_run.specs.Listing.{first_unfit, start_listing}
use Rattle.bland_ratio.specs.Entries.{stored_entries}
use Rattle.factor_run.specs.Bound.{solve_work}
use Rattle.factor_run.specs.Calm.{IsCalm}
use Rattle.two_phase.specs.declared.board.Closed.{Closed}
use Rattle.deck_model.specs.Outcome.{outcome_of}
use Rattle.crew.specs.Answers.{HasClosed}
use Rattle.lp_text.specs.declared.Form.{Form}
use Rattle.mps_model.specs.DeckOf.{is_deck}
use Rattle.deck_tools.specs.Transport.{transport}
use Rattle.lp_main.specs.declared.refusal.Refusal.{Refusal}
use Rattle.lp_main.specs.declared.refusal.Refusal.TheVariants as refusal
use Rattle.lp_main.specs.declared.status.Answer.{Answer}
use Rattle.lp_main.specs.declared.status.Status.{Status}
use Rattle.lp_main.specs.declared.status.Status.TheVariants as status
use Rattle.lp_main.specs.declared.words.Asked.{Asked}
use Rattle.lp_main.specs.declared.words.Task.{Task}
use Rattle.lp_main.specs.declared.words.Task.TheVariants as task
use Rattle.lp_main.specs.Ends.{IsOrMemory, status_of_end}
use Rattle.lp_main.specs.Inner.Solving.{IsRead, IsReadingCause, IsReportCause, IsWriteCause}
use Rattle.lp_main.specs.Refusal.{status_of_refusal}
use Rattle.lp_main.specs.Words.{IsUnserved}
use Rattle.lp_main.specs.Works.{Counts, IsBounded, Works, WorksCalmly}

-- a start sum that does not fit is none of a calm deck
pub start_not_calm : (w : ℕ) (d : Deck) (here : Place) → first_unfit w (start_listing (instance_of d)) ≡ Some here → IsCalm w (instance_of d) → ⊥
start_not_calm w d here first calm = apart (sym calm.start ∙ first)
  where
    apart : None ≡ Some here → ⊥
    apart e = cc e

-- ── the bound ──

-- a solve of the instance leaves the stored entries to its making
pub bounded : (w : ℕ) (d : Deck) (inst : Instance) → inst ≡ instance_of d → (closed : Closed) (budget : ℕ) → HasClosed inst budget closed → (work work' : ℕ)
    → (IsCalm w inst → work' + stored_entries inst ≤ work + solve_work inst closed.moves) → IsCalm w (instance_of d) → IsBounded d work (work' + stored_entries (instance_of d))
bounded w d inst same closed budget has work work' spent calm =
    let there : HasClosed (instance_of d) budget closed = subst (λ i. HasClosed i budget closed) same has in
    let within = subst (λ i. IsCalm w i → work' + stored_entries i ≤ work + solve_work i closed.moves) same spent calm in
    (closed.log, outcome_of closed.outcome, there.outcome, subst (λ n. work' + stored_entries (instance_of d) ≤ work + solve_work (instance_of d) n) there.counted within)

summed : (work made work' stored bound : ℕ) → made ≤ work + stored → work' + stored ≤ made + bound → work' ≤ work + bound
summed work made work' stored bound start spent = omega (arith, start, spent)

-- the making of the instance is counted too
pub with_start : (d : Deck) (work made work' : ℕ) → made ≤ work + stored_entries (instance_of d) → IsBounded d made (work' + stored_entries (instance_of d)) → IsBounded d work work'
with_start d work made work' start (log, o, has, spent) = (log, o, has, summed work made work' (stored_entries (instance_of d)) _ start spent)

-- what needs no answer
pub for_all : {A E : Type 0} {P : Type 0} (r : Result A E) → P → IfOk r (λ _. P)
for_all (Ok a) p = p
for_all (Err e) p = tt

-- ── an end ──

pub not_done : (r : Refusal) → status_of_refusal r ≢ status.Done
not_done refusal.Usage e = cc
not_done (refusal.Deck fault) e = cc
not_done refusal.Read e = cc
not_done refusal.Write e = cc
not_done (refusal.Overflow here) e = cc
not_done (refusal.Budget n) e = cc
not_done (refusal.Report number flaw) e = cc
not_done (refusal.Unfit rule name) e = cc
not_done (refusal.RangeUnfit place name) e = cc
not_done (refusal.Wide name) e = cc
not_done refusal.Memory e = cc

-- a refusal that is none of a value that does not fit
pub report_fits : (asked : Asked) (w : ℕ) (d : Deck) (r : Refusal) → IsReportCause asked w d r → IsCalm w (instance_of d) → status_of_refusal r ≢ status.Overflow
report_fits asked w d (refusal.Overflow here) cause calm = absurd (cause.1 calm)
report_fits asked w d (refusal.Budget n) cause calm = λ e. cc
report_fits asked w d refusal.Memory cause calm = λ e. cc
report_fits asked w d other cause calm = absurd cause

pub write_fits : (r : Refusal) → IsWriteCause r → status_of_refusal r ≢ status.Overflow
write_fits refusal.Write cause = λ e. cc
write_fits refusal.Memory cause = λ e. cc
write_fits other cause = absurd cause

pub reading_fits : (form : Form) (text left : Option (List ℕ)) (r : Refusal) → IsReadingCause form text left r → status_of_refusal r ≢ status.Overflow
reading_fits form text left (refusal.Deck fault) cause = λ e. cc
reading_fits form text left refusal.Read cause = λ e. cc
reading_fits form text left refusal.Memory cause = λ e. cc
reading_fits form text left other cause = absurd cause

pub unserved_fits : (what : Option Task) (r : Refusal) → IsUnserved what r → status_of_refusal r ≢ status.Overflow
unserved_fits what refusal.Usage is = λ e. cc
unserved_fits what refusal.Memory is = λ e. cc
unserved_fits what other is = absurd is

module _ (workers w : ℕ) (d : Deck) (old new : Counts) (unfit : IsCalm w (instance_of d) → new.unfit ≡ old.unfit) where
  pub calmly_refused : (r : Refusal) → (IsCalm w (instance_of d) → status_of_refusal r ≢ status.Overflow) → WorksCalmly workers w d old new (status_of_refusal r)
  calmly_refused r fits calm = (unfit calm, fits calm, λ alone done. absurd (not_done r done))

  pub calmly_handed_on : (result : Result Answer Refusal) (e : Refusal) → IsErrAnd result (λ r. r ≡ e) → (IsCalm w (instance_of d) → status_of_refusal e ≢ status.Overflow)
      → WorksCalmly workers w d old new (status_of_end result)
  calmly_handed_on (Ok a) e is fits = absurd is
  calmly_handed_on (Err r) e is fits = calmly_refused r (subst (λ r. IsCalm w (instance_of d) → status_of_refusal r ≢ status.Overflow) (sym is) fits)

  pub calmly_done : (workers ≡ 0 → IsCalm w (instance_of d) → IsBounded d old.work new.work) → WorksCalmly workers w d old new status.Done
  calmly_done bound calm = (unfit calm, λ e. cc, λ alone done. bound alone calm)

-- what holds of the deck that was read holds of the deck that the text is
pub of_text : (asked : Asked) (w : ℕ) (text : Option (List ℕ)) (d : Deck) (old new : Counts) (s : Status) → IfSome text (λ t. IsRead asked.form t d) → WorksCalmly asked.workers w d old new s
    → Works (Some (task.Solve asked)) w text old new s
of_text asked w None d old new s read works = tt
of_text asked w (Some t) d old new s (line, read) works = λ d' line' read'. subst (λ d. WorksCalmly asked.workers w d old new s) (same_deck d d' line line' (sym read ∙ read')) works
  where
    same_deck : (d d' : Deck) (k line : ℕ) → is_deck d k ≡ is_deck d' line → d ≡ d'
    same_deck d d' k line e = cc

-- nothing was worked, and the end is a refusal
pub nothing_worked : (what : Option Task) (w : ℕ) (text : Option (List ℕ)) (c : Counts) (r : Refusal) → status_of_refusal r ≢ status.Overflow → Works what w text c c (status_of_refusal r)
nothing_worked None w text c r fits = tt
nothing_worked (Some (task.Solve asked)) w None c r fits = tt
nothing_worked (Some (task.Solve asked)) w (Some t) c r fits = λ d line read. calmly_refused asked.workers w d c c (λ calm. refl) r (λ calm. fits)
nothing_worked (Some (task.Check form)) w text c r fits = tt
nothing_worked (Some (task.Deck form)) w text c r fits = tt
nothing_worked (Some (task.Make n)) w text c r fits = calmly_refused 0 w (transport n) c c (λ calm. refl) r (λ calm. fits)
nothing_worked (Some (task.Range form)) w text c r fits = tt
nothing_worked (Some (task.Audit form)) w text c r fits = tt

pub nothing_handed_on : (what : Option Task) (w : ℕ) (text : Option (List ℕ)) (c : Counts) (result : Result Answer Refusal) (e : Refusal) → status_of_refusal e ≢ status.Overflow
    → IsErrAnd result (λ r. r ≡ e) → Works what w text c c (status_of_end result)
nothing_handed_on what w text c (Ok a) e fits is = absurd is
nothing_handed_on what w text c (Err r) e fits is = nothing_worked what w text c r (subst (λ r. status_of_refusal r ≢ status.Overflow) (sym is) fits)

-- another status of a refusal
fits_too : (s s' : Status) → IsOrMemory s' s → s ≢ status.Overflow → s' ≢ status.Overflow
fits_too s s' (inl is) fits = λ e. fits (sym is ∙ e)
fits_too s s' (inr is) fits = λ e. no_memory (sym is ∙ e)
  where
    no_memory : status.Memory ≢ status.Overflow
    no_memory e = cc

pub said_instead : (what : Option Task) (w : ℕ) (text : Option (List ℕ)) (old new : Counts) (s s' : Status) → s' ≢ status.Done → IsOrMemory s' s
    → Works what w text old new s → Works what w text old new s'
said_instead None w text old new s s' other is works = tt
said_instead (Some (task.Solve asked)) w None old new s s' other is works = tt
said_instead (Some (task.Solve asked)) w (Some t) old new s s' other is works =
    λ d line read calm. let h = works d line read calm in (h.0, fits_too s s' is h.1, λ alone done. absurd (other done))
said_instead (Some (task.Check form)) w text old new s s' other is works = tt
said_instead (Some (task.Deck form)) w text old new s s' other is works = tt
said_instead (Some (task.Make n)) w text old new s s' other is works = λ calm. let h = works calm in (h.0, fits_too s s' is h.1, λ alone done. absurd (other done))
said_instead (Some (task.Range form)) w text old new s s' other is works = tt
said_instead (Some (task.Audit form)) w text old new s s' other is works = tt
