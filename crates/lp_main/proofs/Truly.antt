-- From what is written to what is true of the deck.
use Rattle.std.proofs.Common.{◌≡◌, ◌≢◌, ℕ, List, [], ◌∷◌, Option, Some, None, sym, ◌∙◌, subst}
use Rattle.io_ends.specs.Bytes.{Appends}
use Rattle.lp_model.specs.declared.Entry.{Entry}
use Rattle.lp_model.specs.Basis.{Basis}
use Rattle.lp_model.specs.Deck.{Deck}
use Rattle.lp_model.specs.Outcome.{Outcome, infeasible, optimal, unbounded}
use Rattle.lp_run.specs.Ends.{HasOutcome, Yields}
use Rattle.lp_run.specs.Instance.{Instance, instance_of}
use Rattle.lp_run.specs.Run.{IsRun, Leads}
use Rattle.lp_run.specs.State.{State, after, start_of}
use Rattle.lp_laws.proofs.WeakDuality.{weak}
use Rattle.lp_laws.proofs.FarkasGap.{gap}
use Rattle.lp_laws.proofs.AlongRays.{endless}
use Rattle.bland_laws.specs.OutcomeProves.{OutcomeProves}
use Rattle.cert_check.specs.Proved.{Holds, IsProved}
use Rattle.lp_main.specs.declared.status.Answer.{Answer}
use Rattle.lp_main.specs.declared.status.Answer.TheVariants as answer
use Rattle.lp_main.specs.declared.status.Status.{Status}
use Rattle.lp_main.specs.declared.status.Status.TheVariants as status
use Rattle.lp_main.specs.declared.words.Task.{Task}
use Rattle.lp_main.specs.declared.words.Task.TheVariants as task
use Rattle.lp_text.specs.Report.{Report}
use Rattle.run_audit.specs.declared.answer.Audit.{Audit}
use Rattle.run_audit.specs.declared.answer.Audit.TheVariants as audit
use Rattle.lp_main.specs.Audits.{IsAudited, answer_of_audit}
use Rattle.lp_main.specs.Codes.{status_of_answer}
use Rattle.lp_main.specs.Ends.{Writes}
use Rattle.lp_main.specs.Solves.{stated}
use Rattle.lp_main.specs.Truths.{IsDoneTruly, IsTrue, Means}

-- what an outcome proves is so
means : (d : Deck) (o : Outcome) → OutcomeProves d o → Means d o
means d (optimal x y v) proves = weak d x y proves.0
means d (infeasible y) proves = gap d y proves
means d (unbounded x r) proves = endless d x r proves

pub is_true : (d : Deck) (o : Outcome) → OutcomeProves d o → IsTrue d o
is_true d o proves = record { means = means d o proves; proves = proves }

-- what a check proves
proved : (d : Deck) (o : Outcome) → IsProved d o → OutcomeProves d o
proved d (optimal x y v) h = (h.0, sym h.1)
proved d (infeasible y) h = h
proved d (unbounded x r) h = h

held : (d : Deck) (o : Outcome) (basis : Option Basis) → Holds d o basis → IsTrue d o
held d o None h = is_true d o (proved d o h)
held d o (Some b) h = is_true d o (proved d o h.0)

-- what an audit finds to be the run
is_yes : (judgement : Audit) (a : Answer) → a ≡ answer_of_audit judgement → status_of_answer a ≡ status.Done → status_of_answer (answer_of_audit judgement) ≡ status.Done
is_yes judgement a is done = subst (λ a. status_of_answer a ≡ status.Done) is done

audited_truly : (d : Deck) (report : Report) (judgement : Audit) → IsAudited d report judgement → status_of_answer (answer_of_audit judgement) ≡ status.Done → IsTrue d report.outcome
audited_truly d report (audit.Yes k) h done = h.1
audited_truly d report other h done = absurd (cc done)

-- a log comes to one state
one_state : (inst : Instance) (log : List Entry) (s t t' : State) → Leads inst s log t → Leads inst s log t' → t ≡ t'
one_state inst [] s t t' leads leads' = sym leads ∙ leads'
one_state inst (e ∷ log) s t t' leads leads' = one_state inst log (after s e) t t' leads.1 leads'.1

-- the state that a whole run comes to yields its outcome
yields_at : (inst : Instance) (log : List Entry) (o : Outcome) → HasOutcome inst log o → (last : State) → IsRun inst log last → Yields inst last o
yields_at inst log o (s, run, yields) last run' = subst (λ s. Yields inst s o) (one_state inst log (start_of inst) s last run run') yields

module _ (w : ℕ) (old new : Option (List ℕ)) where
  pub truly_done : (what : Option Task) (text : Option (List ℕ)) (a : Answer) → Writes what w text old new a → IsDoneTruly what text old new (status_of_answer a)
  truly_done None text a gives = tt
  truly_done (Some (task.Solve asked)) None a gives = λ done. tt
  truly_done (Some (task.Solve asked)) (Some t) answer.Done (bytes, (d, line, log, o, last, read, solved, run, is), appended) =
      λ done. (d, line, stated asked log o last, read, subst (λ bytes. Appends old new bytes) is appended, solved.truth)
  truly_done (Some (task.Solve asked)) (Some t) answer.Refused (bytes, may, appended) = absurd may
  truly_done (Some (task.Check form)) None a gives = λ done. tt
  truly_done (Some (task.Check form)) (Some t) answer.Done (bytes, (d, report, tells, verdict), appended) = λ done. (d, report, tells, held d report.outcome report.basis verdict.1)
  truly_done (Some (task.Check form)) (Some t) answer.Refused gives = λ done. absurd (cc done)
  truly_done (Some (task.Deck form)) text a gives = tt
  truly_done (Some (task.Make n)) text a gives = tt
  truly_done (Some (task.Range form)) None a gives = λ done. tt
  truly_done (Some (task.Range form)) (Some t) answer.Done (bytes, (d, line, read, (log, o, last, solved, run, tells)), appended) =
      λ done. (d, line, last, o, bytes, read, appended, yields_at (instance_of d) log o solved.outcome last run, solved.truth, tells)
  truly_done (Some (task.Range form)) (Some t) answer.Refused (bytes, may, appended) = absurd may
  truly_done (Some (task.Audit form)) None a gives = λ done. tt
  truly_done (Some (task.Audit form)) (Some t) a (bytes, (d, report, judgement, tells, audited, is, line), appended) = λ done. (d, report, tells, audited_truly d report judgement audited (is_yes judgement a is done))

  -- a refusal is not done
  pub truly_refused : (what : Option Task) (text : Option (List ℕ)) (s : Status) → s ≢ status.Done → IsDoneTruly what text old new s
  truly_refused None text s other = tt
  truly_refused (Some (task.Solve asked)) text s other = λ done. absurd (other done)
  truly_refused (Some (task.Check form)) text s other = λ done. absurd (other done)
  truly_refused (Some (task.Deck form)) text s other = tt
  truly_refused (Some (task.Make n)) text s other = tt
  truly_refused (Some (task.Range form)) text s other = λ done. absurd (other done)
  truly_refused (Some (task.Audit form)) text s other = λ done. absurd (other done)
