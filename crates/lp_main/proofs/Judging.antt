-- From the verdict on a report to what the check of a text leaves.
use Rattle.std.proofs.Common.{◌≡◌, ℕ, List, Option, Some, None, Ok, Err, refl, sym, subst, inl}
use Rattle.std.specs.Prelude.{IfErr, IfSome, IsErrAnd, Result}
use Rattle.io_ends.specs.Bytes.{Appends, AppendsPrefix}
use Rattle.lp_model.specs.Deck.{Deck}
use Rattle.lp_text.specs.declared.Form.{Form}
use Rattle.lp_text.specs.Report.{Report}
use Rattle.lp_main.specs.declared.refusal.Refusal.{Refusal}
use Rattle.lp_main.specs.declared.refusal.Refusal.TheVariants as refusal
use Rattle.lp_main.specs.declared.status.Answer.{Answer}
use Rattle.lp_main.specs.declared.words.Task.TheVariants.{Check}
use Rattle.cert_check.specs.declared.verdict.Rule.{Rule}
use Rattle.lp_main.specs.Checks.{IsUnfit, IsVerdictOn, TellsReport}
use Rattle.lp_main.specs.Ends.{Begins, Writes, IsCause}
use Rattle.lp_main.specs.World.{Stream}
use Rattle.lp_main.specs.Inner.Checking.{IsJudgeCause}

module _ (form : Form) (w : ℕ) (d : Deck) (report : Report) where
  unfit : (text : Option (List ℕ)) (rule : Rule) (name : Option (List ℕ)) → IfSome text (λ t. TellsReport form t d report)
      → IsJudgeCause w d report (refusal.Unfit rule name) → IfSome text (IsUnfit form w rule name)
  unfit None rule name tells cause = tt
  unfit (Some t) rule name tells cause = (d, report, tells, cause.0, cause.1)

  -- no verdict was found
  unjudged_cause : (input input' : Stream) (old : Option (List ℕ)) (r : Refusal) → IfSome input.bytes (λ t. TellsReport form t d report) → IsJudgeCause w d report r
      → IsCause (Some (Check form)) w input input' old old r
  unjudged_cause input input' old (refusal.Unfit rule name) tells cause = (unfit input.bytes rule name tells cause, refl)
  unjudged_cause input input' old refusal.Memory tells cause = inl refl
  unjudged_cause input input' old other tells cause = absurd cause

  pub unjudged : (result : Result Answer Refusal) (input input' : Stream) (old : Option (List ℕ)) (e : Refusal)
      → IfSome input.bytes (λ t. TellsReport form t d report) → IsJudgeCause w d report e → IsErrAnd result (λ r. r ≡ e) → IfErr result (IsCause (Some (Check form)) w input input' old old)
  unjudged (Ok a) input input' old e tells cause is = tt
  unjudged (Err r) input input' old e tells cause is = subst (IsCause (Some (Check form)) w input input' old old) (sym is) (unjudged_cause input input' old e tells cause)

  -- the verdict was written, or a beginning of it
  pub given : (text old new : Option (List ℕ)) (a : Answer) (line : List ℕ) → IfSome text (λ t. TellsReport form t d report) → IsVerdictOn w d report a line
      → Appends old new line → Writes (Some (Check form)) w text old new a
  given None old new a line tells verdict appended = (line, tt, appended)
  given (Some t) old new a line tells verdict appended = (line, (d, report, tells, verdict), appended)

  pub begun : (text old new : Option (List ℕ)) (a : Answer) (line : List ℕ) → IfSome text (λ t. TellsReport form t d report) → IsVerdictOn w d report a line
      → AppendsPrefix old new line → Begins (Some (Check form)) w text old new
  begun None old new a line tells verdict appended = (a, line, tt, appended)
  begun (Some t) old new a line tells verdict appended = (a, line, (d, report, tells, verdict), appended)
