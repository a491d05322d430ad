-- From what may be replied to what must be answered.
use Rattle.std.proofs.Common.{◌≡◌, ℕ, List, Option, Some, None, Result, Ok, Err, refl, sym, subst, inl, inr}
use Rattle.lp_model.specs.declared.Place.{Place}
use Rattle.lp_model.specs.Deck.{Deck}
use Rattle.lp_run.specs.Instance.{instance_of}
use Rattle.lp_run.specs.Listing.{Overflows}
use Rattle.crew.proofs.Complete.{not_spent, not_unfit}
use Rattle.deck_tools.specs.Layout.{deck_text}
use Rattle.deck_tools.specs.Transport.{transport}
use Rattle.mps_model.specs.DeckOf.{HasFault, Reading, TextFault, has_fault, is_deck, reading_of}
use Rattle.lp_main.specs.declared.refusal.Refusal.{Refusal}
use Rattle.lp_main.specs.declared.refusal.Refusal.TheVariants as refusal
use Rattle.lp_main.specs.declared.status.Answer.{Answer}
use Rattle.lp_main.specs.declared.status.Answer.TheVariants as answer
use Rattle.lp_main.specs.declared.status.Status.{Status}
use Rattle.lp_main.specs.declared.status.Status.TheVariants as status
use Rattle.lp_main.specs.declared.words.Task.{Task}
use Rattle.lp_main.specs.declared.words.Task.TheVariants as task
use Rattle.lp_main.specs.Codes.{status_of_answer}
use Rattle.lp_main.specs.Ends.{IsCause, MayReply}
use Rattle.lp_main.specs.FaultLines.{fault_line}
use Rattle.lp_main.specs.Refusal.{line_of, status_of_refusal}
use Rattle.lp_main.specs.Reply.{gives, refuses}
use Rattle.lp_main.specs.Runs.{MustAnswer, MustAnswerTo, MustAudit, MustLayOut, MustRange, MustSolve}
use Rattle.lp_main.specs.Solves.{IsShort}
use Rattle.lp_main.specs.Summaries.{summary_budget}
use Rattle.lp_main.specs.World.{Stream}
use Rattle.lp_main.proofs.FirstFaults.{named}

-- ── a run ──

module _ (budget w : ℕ) (d : Deck) where
  -- a value that does not fit is none of a run that fits
  overflowed : (here : Place) → Overflows w budget (instance_of d) here → MustSolve budget w d status.Overflow
  overflowed here h = λ has. inr (refl, λ fits. not_unfit (instance_of d) w budget here fits h)

  -- a run that ends within the budget does not spend it
  over_budget : (n : ℕ) → IsShort budget n d → MustSolve budget w d status.Budget
  over_budget n h = λ has. absurd (not_spent (instance_of d) has.0 has.1 has.2 budget has.3 h.1)

-- ── a reading; what standard error has of a line is Said ──

same_deck : (d d' : Deck) (k line : ℕ) → is_deck d k ≡ is_deck d' line → d ≡ d'
same_deck d d' k line e = cc

same_fault : (f f' : TextFault) → has_fault f ≡ has_fault f' → f ≡ f'
same_fault f f' e = cc

module _ (Said : List ℕ → Type 0) (Owed : Deck → Type 0) where
  -- what is owed of the deck of a text
  of_deck : (reading : Reading) (d : Deck) (line : ℕ) (s : Status) → reading ≡ is_deck d line → Owed d → MustAnswerTo reading s Said Owed
  of_deck (has_fault fault) d line s e h = absurd (cc e)
  of_deck (is_deck d' k) d line s e h = subst Owed (sym (same_deck d' d k line e)) h

  of_fault : (reading : Reading) (fault : TextFault) → reading ≡ has_fault fault → Said (fault_line fault) → MustAnswerTo reading status.BadInput Said Owed
  of_fault (has_fault fault') fault e says = inl (refl, subst (λ f. Said (fault_line f)) (sym (same_fault fault' fault e)) says)
  of_fault (is_deck d k) fault e says = absurd (cc e)

  of_memory : (reading : Reading) → ((d : Deck) → Owed d) → MustAnswerTo reading status.Memory Said Owed
  of_memory (has_fault fault) h = inr refl
  of_memory (is_deck d k) h = h d

-- ── each task ──

module _ (w : ℕ) (Said : List ℕ → Type 0) where
  without_memory : (layout : Result (List ℕ) (List ℕ)) → MustLayOut layout status.Memory Said
  without_memory (Ok bytes) = inr refl
  without_memory (Err name) = inr refl

  -- memory ran out
  pub must_memory : (t : Task) (text : Option (List ℕ)) → MustAnswer t w text status.Memory Said
  must_memory (task.Solve asked) None = tt
  must_memory (task.Solve asked) (Some x) = of_memory Said (λ d. MustSolve asked.budget w d status.Memory) (reading_of asked.form x) (λ d has. inl (inr refl))
  must_memory (task.Check form) None = tt
  must_memory (task.Check form) (Some x) = of_memory Said (λ d. Unit {0}) (reading_of form x) (λ d. tt)
  must_memory (task.Deck form) None = tt
  must_memory (task.Deck form) (Some x) = of_memory Said (λ d. MustLayOut (deck_text form d) status.Memory Said) (reading_of form x) (λ d. without_memory (deck_text form d))
  must_memory (task.Make n) text = λ has. inl (inr refl)
  must_memory (task.Range form) None = tt
  must_memory (task.Range form) (Some x) = of_memory Said (λ d. MustRange w d status.Memory) (reading_of form x) (λ d has. inl (inr refl))
  must_memory (task.Audit form) None = tt
  must_memory (task.Audit form) (Some x) = of_memory Said (λ d. MustAudit form w x status.Memory) (reading_of form x) (λ d no_flaw fits. inr (inr refl))

  -- what was asked for was written
  pub must_give : (t : Task) (text : Option (List ℕ)) (a : Answer) (bytes : List ℕ) → MayReply (Some t) w text (gives a bytes) → MustAnswer t w text (status_of_answer a) Said
  must_give (task.Solve asked) None a bytes h = tt
  must_give (task.Solve asked) (Some x) answer.Done bytes (d, line, log, o, last, read, solved, run, is) =
      of_deck Said (λ d. MustSolve asked.budget w d status.Done) (reading_of asked.form x) d line status.Done read (λ has. inl (inl refl))
  must_give (task.Solve asked) (Some x) answer.Refused bytes h = absurd h
  must_give (task.Check form) None a bytes h = tt
  must_give (task.Check form) (Some x) a bytes (d, report, tells, verdict) =
      of_deck Said (λ d. Unit {0}) (reading_of form x) d tells.behind.line (status_of_answer a) tells.behind.deck tt
  must_give (task.Deck form) None a bytes h = tt
  must_give (task.Deck form) (Some x) answer.Done bytes (d, line, read, spelled) =
      of_deck Said (λ d. MustLayOut (deck_text form d) status.Done Said) (reading_of form x) d line status.Done read
      (subst (λ layout. MustLayOut layout status.Done Said) (sym spelled) (inl refl))
  must_give (task.Deck form) (Some x) answer.Refused bytes h = absurd h
  must_give (task.Make n) text answer.Done bytes h = λ has. inl (inl refl)
  must_give (task.Make n) text answer.Refused bytes h = absurd h
  must_give (task.Range form) None a bytes h = tt
  must_give (task.Range form) (Some x) answer.Done bytes (d, line, read, ranged) =
      of_deck Said (λ d. MustRange w d status.Done) (reading_of form x) d line status.Done read (λ has. inl (inl refl))
  must_give (task.Range form) (Some x) answer.Refused bytes h = absurd h
  must_give (task.Audit form) None a bytes h = tt
  must_give (task.Audit form) (Some x) answer.Done bytes (d, report, judgement, tells, audited, is, line) =
      of_deck Said (λ d. MustAudit form w x status.Done) (reading_of form x) d tells.behind.line status.Done tells.behind.deck (λ no_flaw fits. inl refl)
  must_give (task.Audit form) (Some x) answer.Refused bytes (d, report, judgement, tells, audited, is, line) =
      of_deck Said (λ d. MustAudit form w x status.Refused) (reading_of form x) d tells.behind.line status.Refused tells.behind.deck (λ no_flaw fits. inr (inl refl))

  -- the refusal was replied
  must_refuse : (t : Task) (text : Option (List ℕ)) (r : Refusal) → MayReply (Some t) w text (refuses r) → Said (line_of r) → MustAnswer t w text (status_of_refusal r) Said
  must_refuse (task.Solve asked) None r h says = tt
  must_refuse (task.Solve asked) (Some x) (refusal.Deck fault) h says =
      let k = named fault (HasFault asked.form x) h in
      of_fault Said (λ d. MustSolve asked.budget w d status.BadInput) (reading_of asked.form x) k.0 k.1 (subst Said k.2 says)
  must_refuse (task.Solve asked) (Some x) (refusal.Overflow here) (d, line, read, unfit) says =
      of_deck Said (λ d. MustSolve asked.budget w d status.Overflow) (reading_of asked.form x) d line status.Overflow read (overflowed asked.budget w d here unfit)
  must_refuse (task.Solve asked) (Some x) (refusal.Budget n) (d, line, read, short) says =
      of_deck Said (λ d. MustSolve asked.budget w d status.Budget) (reading_of asked.form x) d line status.Budget read (over_budget asked.budget w d n short)
  must_refuse (task.Solve asked) (Some x) other h says = absurd h
  must_refuse (task.Check form) None r h says = tt
  must_refuse (task.Check form) (Some x) (refusal.Deck fault) h says =
      let k = named fault (HasFault form x) h in of_fault Said (λ d. Unit {0}) (reading_of form x) k.0 k.1 (subst Said k.2 says)
  must_refuse (task.Check form) (Some x) (refusal.Report number flaw) (d, behind, has, k, is, first) says =
      of_deck Said (λ d. Unit {0}) (reading_of form x) d has.line status.BadInput has.deck tt
  must_refuse (task.Check form) (Some x) (refusal.Unfit rule name) (d, report, tells, stop, is) says =
      of_deck Said (λ d. Unit {0}) (reading_of form x) d tells.behind.line status.Overflow tells.behind.deck tt
  must_refuse (task.Check form) (Some x) other h says = absurd h
  must_refuse (task.Deck form) None r h says = tt
  must_refuse (task.Deck form) (Some x) (refusal.Deck fault) h says =
      let k = named fault (HasFault form x) h in
      of_fault Said (λ d. MustLayOut (deck_text form d) status.BadInput Said) (reading_of form x) k.0 k.1 (subst Said k.2 says)
  must_refuse (task.Deck form) (Some x) (refusal.Wide name) (d, line, read, unspelled) says =
      of_deck Said (λ d. MustLayOut (deck_text form d) status.BadInput Said) (reading_of form x) d line status.BadInput read
      (subst (λ layout. MustLayOut layout status.BadInput Said) (sym unspelled) (inl (refl, says)))
  must_refuse (task.Deck form) (Some x) other h says = absurd h
  must_refuse (task.Make n) text (refusal.Overflow here) h says = overflowed summary_budget w (transport n) here h
  must_refuse (task.Make n) text (refusal.Budget k) h says = over_budget summary_budget w (transport n) k h
  must_refuse (task.Make n) text other h says = absurd h
  must_refuse (task.Range form) None r h says = tt
  must_refuse (task.Range form) (Some x) (refusal.Deck fault) h says =
      let k = named fault (HasFault form x) h in of_fault Said (λ d. MustRange w d status.BadInput) (reading_of form x) k.0 k.1 (subst Said k.2 says)
  must_refuse (task.Range form) (Some x) (refusal.Overflow here) (d, line, read, unfit) says =
      of_deck Said (λ d. MustRange w d status.Overflow) (reading_of form x) d line status.Overflow read
      (λ has. inr (refl, λ fits ranged. not_unfit (instance_of d) w summary_budget here fits unfit))
  must_refuse (task.Range form) (Some x) (refusal.RangeUnfit place name) (d, line, read, unfit) says =
      of_deck Said (λ d. MustRange w d status.Overflow) (reading_of form x) d line status.Overflow read (λ has. inr (refl, λ fits ranged. ranged place name unfit))
  must_refuse (task.Range form) (Some x) (refusal.Budget n) (d, line, read, short) says =
      of_deck Said (λ d. MustRange w d status.Budget) (reading_of form x) d line status.Budget read
      (λ has. absurd (not_spent (instance_of d) has.0 has.1 has.2 summary_budget has.3 short.1))
  must_refuse (task.Range form) (Some x) other h says = absurd h
  must_refuse (task.Audit form) None r h says = tt
  must_refuse (task.Audit form) (Some x) (refusal.Deck fault) h says =
      let k = named fault (HasFault form x) h in of_fault Said (λ d. MustAudit form w x status.BadInput) (reading_of form x) k.0 k.1 (subst Said k.2 says)
  must_refuse (task.Audit form) (Some x) (refusal.Report number flaw) h says =
      let (d, behind, has, k, is, first) = h in
      of_deck Said (λ d. MustAudit form w x status.BadInput) (reading_of form x) d has.line status.BadInput has.deck (λ no_flaw fits. absurd (no_flaw number flaw h))
  must_refuse (task.Audit form) (Some x) (refusal.Overflow here) h says =
      let (d, report, tells, cause) = h in
      of_deck Said (λ d. MustAudit form w x status.Overflow) (reading_of form x) d tells.behind.line status.Overflow tells.behind.deck (λ no_flaw fits. absurd (fits here h))
  must_refuse (task.Audit form) (Some x) other h says = absurd h

  -- the refusal was said; A and B are said of a failed read and of a failed write
  pub must_refuse_by : (t : Task) (input input' : Stream) (old new : Option (List ℕ)) (r : Refusal) (A B : Type 0) → IsCause (Some t) w input input' old new r → Said (line_of r)
      → (r ≡ refusal.Read → A) → (r ≡ refusal.Write → B) → (¬ A) → (¬ B) → MustAnswer t w input.bytes (status_of_refusal r) Said
  must_refuse_by t input input' old new refusal.Read A B cause says read write no_read no_write = absurd (no_read (read refl))
  must_refuse_by t input input' old new refusal.Write A B cause says read write no_read no_write = absurd (no_write (write refl))
  must_refuse_by t input input' old new refusal.Memory A B cause says read write no_read no_write = must_memory t input.bytes
  must_refuse_by t input input' old new r A B cause says read write no_read no_write = must_refuse t input.bytes r cause.0 says
