-- From what the parts of a solve answer to what the solve answers.
use Rattle.std.proofs.Common.{◌≡◌, ℕ, List, Option, Some, None, Ok, Err, refl, sym, ◌∙◌, ap, subst, inl, inr}
use Rattle.std.specs.Prelude.{IfErr, IfSome, IsErrAnd, IsErrOf, Result}
use Rattle.io_ends.specs.Bytes.{Appends, AppendsPrefix}
use Rattle.lp_model.specs.Deck.{Deck}
use Rattle.lp_text.specs.Report.{Report, text_of_report}
use Rattle.lp_text.specs.declared.Form.{Form}
use Rattle.mps_model.specs.DeckOf.{IsDeckOf}
use Rattle.lp_main.specs.declared.refusal.Refusal.{Refusal}
use Rattle.lp_main.specs.declared.refusal.Refusal.TheVariants as refusal
use Rattle.lp_main.specs.declared.status.Answer.{Answer}
use Rattle.lp_main.specs.declared.words.Asked.{Asked}
use Rattle.lp_run.specs.Instance.{instance_of}
use Rattle.lp_run.specs.Listing.{Overflows}
use Rattle.lp_main.specs.declared.status.Answer.TheVariants.{Done}
use Rattle.lp_main.specs.declared.words.Task.TheVariants.{Solve}
use Rattle.lp_main.specs.Ends.{Begins, Writes, IsCause}
use Rattle.lp_main.specs.Inner.Solving.{IsRead, IsReportCause, IsReportOf, IsWriteCause}
use Rattle.lp_main.specs.Solves.{IsDeckWith, IsReport, IsShort}
use Rattle.lp_main.specs.World.{Stream}

module _ (asked : Asked) (old new : Option (List ℕ)) (d : Deck) (report : Report) (is : IsReportOf asked d report) where
  -- the report's text is the one that is asked for
  is_report : (text : Option (List ℕ)) → IfSome text (λ t. IsRead asked.form t d) → IfSome text (IsReport asked (text_of_report d report))
  is_report None read = tt
  is_report (Some t) read = (d, read.0, is.log, report.outcome, is.last, read.1, is.solved, is.run, ap (text_of_report d) is.is)

  pub reports : (w : ℕ) (text : Option (List ℕ)) → IfSome text (λ t. IsRead asked.form t d) → Appends old new (text_of_report d report) → Writes (Some (Solve asked)) w text old new Done
  reports w text read appended = (text_of_report d report, is_report text read, appended)

  write_cause : (w : ℕ) (input input' : Stream) (e : Refusal) → IsWriteCause e → Begins (Some (Solve asked)) w input.bytes old new → IsCause (Some (Solve asked)) w input input' old new e
  write_cause w input input' refusal.Write h begun = begun
  write_cause w input input' refusal.Memory h begun = inr begun
  write_cause w input input' other h begun = absurd h

  -- the report was not written to its end
  pub unwritten_cause : (w : ℕ) (result : Result Answer Refusal) (e : Refusal) (input input' : Stream) → IfSome input.bytes (λ t. IsRead asked.form t d)
      → IsWriteCause e → AppendsPrefix old new (text_of_report d report) → IsErrAnd result (λ r. r ≡ e) → IfErr result (IsCause (Some (Solve asked)) w input input' old new)
  unwritten_cause w (Ok a) e input input' read cause appended is = tt
  unwritten_cause w (Err r) e input input' read cause appended is =
      subst (IsCause (Some (Solve asked)) w input input' old new) (sym is)
      (write_cause w input input' e cause (Done, text_of_report d report, is_report input.bytes read, appended))

-- what holds of the deck that was read holds of the text's deck
pub deck_with : (form : Form) (P : Deck → Type 0) (d : Deck) (text : Option (List ℕ)) → IfSome text (λ t. IsRead form t d) → P d → IfSome text (IsDeckWith form P)
deck_with form P d None read h = tt
deck_with form P d (Some t) read h = (d, read.0, read.1, h)

pub report_cause : (asked : Asked) (w : ℕ) (e : Refusal) (input input' : Stream) (old : Option (List ℕ)) (d : Deck)
    → IfSome input.bytes (λ t. IsRead asked.form t d) → IsReportCause asked w d e → IsCause (Some (Solve asked)) w input input' old old e
report_cause asked w (refusal.Overflow here) input input' old d read cause =
    (deck_with asked.form (λ d. Overflows w asked.budget (instance_of d) here) d input.bytes read cause.0, refl)
report_cause asked w (refusal.Budget n) input input' old d read cause = (deck_with asked.form (IsShort asked.budget n) d input.bytes read cause, refl)
report_cause asked w refusal.Memory input input' old d read cause = inl refl
report_cause asked w other input input' old d read cause = absurd cause

-- the refusal of the report is that of the whole
pub refused_cause : (asked : Asked) (w : ℕ) (result : Result Answer Refusal) (e : Refusal) (input input' : Stream) (old : Option (List ℕ)) (d : Deck)
    → IfSome input.bytes (λ t. IsRead asked.form t d) → IsReportCause asked w d e → IsErrAnd result (λ r. r ≡ e) → IfErr result (IsCause (Some (Solve asked)) w input input' old old)
refused_cause asked w (Ok a) e input input' old d read cause is = tt
refused_cause asked w (Err r) e input input' old d read cause is =
    subst (IsCause (Some (Solve asked)) w input input' old old) (sym is) (report_cause asked w e input input' old d read cause)

err_is : (e r : Refusal) → IsErrOf {T = Unit {0}} (Err e) r → e ≡ r
err_is e r same = cc

-- what the text of a deck is
pub is_read : (form : Form) (text : Option (List ℕ)) (d : Deck) (n : ℕ) → IfSome text (λ t. IsDeckOf form t d n) → IfSome text (λ t. IsRead form t d)
is_read form None d n h = tt
is_read form (Some t) d n h = (n, h)

-- another refusal than r is passed on as another
pub still_other : (result : Result Answer Refusal) (e r : Refusal) → IsErrAnd result (λ x. x ≡ e) → ¬ IsErrOf result r → ¬ IsErrOf {T = Unit {0}} (Err e) r
still_other (Ok a) e r is other same = absurd is
still_other (Err x) e r is other same = other (ap Err (is ∙ err_is e r same))
