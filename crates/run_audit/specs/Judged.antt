-- What a report is worth beside the run of its deck.
use Rattle.std.specs.Prelude.{◌≡◌, ◌≢◌, ℕ, ◌<◌, ◌≤◌, ◌⊎◌, List, length, take, slice_get, Some, None, IfSome}
use Rattle.lp_model.specs.declared.Entry.{Entry}
use Rattle.lp_model.specs.Basis.{Basis}
use Rattle.lp_run.specs.Ends.{Yields}
use Rattle.lp_run.specs.Instance.{Instance}
use Rattle.lp_run.specs.Run.{IsRun, IsWholeRun}
use Rattle.lp_run.specs.State.{State}
use Rattle.lp_run.specs.Step.{IsFinal, IsNext}
use Rattle.lp_text.specs.Report.{Report}
use Rattle.instance_model.specs.Basis.{basis_of}
use Rattle.run_audit.specs.declared.answer.Audit.{Audit}
use Rattle.run_audit.specs.declared.answer.Audit.TheVariants as audit

-- the log and the run agree before number k, and part there: the run ends and the log goes on, or the run goes on with an entry that the log has not
abbrev pub PartsAt : Instance → List Entry → ℕ → Type 0
PartsAt inst log k =
    (s : State) × (k ≤ length log) × IsRun inst (take k log) s
    × ((IsFinal inst s × (k < length log)) ⊎ ((e : Entry) × IsNext inst s e × (slice_get log k ≢ Some e)))

-- the answer is right of the report, beside the run of the instance: the report has no log; its log parts from the run at number k; its log is the whole
-- run, but its outcome is not the run's; log and outcome are the run's, but its basis is not that of the last state; or all is the run's, which has k entries
abbrev pub Judged : Instance → Report → Audit → Type 0
Judged inst r audit.NoLog = r.log ≡ None
Judged inst r (audit.Log k) = (log : List Entry) × (r.log ≡ Some log) × PartsAt inst log k
Judged inst r audit.Outcome = (log : List Entry) × (s : State) × (r.log ≡ Some log) × IsWholeRun inst log s × (Yields inst s r.outcome → ⊥)
Judged inst r audit.Basis =
    (log : List Entry) × (s : State) × (r.log ≡ Some log) × IsRun inst log s × Yields inst s r.outcome × ((b : Basis) × (r.basis ≡ Some b) × (b ≢ basis_of s))
Judged inst r (audit.Yes k) =
    (log : List Entry) × (s : State) × (r.log ≡ Some log) × IsRun inst log s × Yields inst s r.outcome × (k ≡ length log) × IfSome r.basis (λ b. b ≡ basis_of s)
