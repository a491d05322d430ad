-- What an audit works, in order.
use Rattle.std.specs.Prelude.{◌≡◌, ℕ, ◌≤◌, ◌⊎◌, List, [], ◌++◌, length, take, Some}
use Rattle.lp_model.specs.declared.Entry.{Entry}
use Rattle.lp_model.specs.Outcome.{Outcome, optimal}
use Rattle.rational.specs.Rational.{ℚ}
use Rattle.lp_run.specs.Ends.{point, prices_in}
use Rattle.lp_run.specs.Instance.{Instance}
use Rattle.lp_run.specs.Listing.{AllFit, Listed, WorkedBefore, start_listing, total_listing}
use Rattle.lp_run.specs.Run.{IsRun}
use Rattle.lp_run.specs.State.{State}
use Rattle.lp_run.specs.Step.{EndsOptimal}
use Rattle.lp_text.specs.Report.{Report}
use Rattle.plain_table.specs.Next.{RatioLists}
use Rattle.run_audit.specs.declared.answer.Audit.{Audit}
use Rattle.run_audit.specs.declared.answer.Audit.TheVariants as audit

-- where the first k entries of the log are the run's: the start sums, all that is worked before the state that they reach, and the ratio test there
abbrev pub LogLists : Instance → List Entry → ℕ → List Listed → Type 0
LogLists inst log k vs =
    (s : State) × (before tested : List Listed) × (k ≤ length log) × IsRun inst (take k log) s × WorkedBefore inst (take k log) before × RatioLists inst k s tested
    × (vs ≡ start_listing inst ++ before ++ tested)

-- at an optimum the outcome has its point x and its prices, whatever objective it states
abbrev pub HasOptimum : Instance → State → Outcome → List ℚ → Type 0
HasOptimum inst s o x = (z β : List ℚ) × (v : ℚ) × EndsOptimal inst s z β × (x ≡ point inst s β) × (o ≡ optimal x (prices_in inst.sense z) v)

-- the sums of the objective, where the outcome has the point and the prices of an optimum; else nothing
abbrev pub TotalLists : Instance → ℕ → State → Outcome → List Listed → Type 0
TotalLists inst k s o vs = ((x : List ℚ) × HasOptimum inst s o x × (vs ≡ total_listing inst k x)) ⊎ (((x : List ℚ) → HasOptimum inst s o x → ⊥) × (vs ≡ []))

-- along the whole log, and then of the outcome
abbrev pub ReportLists : Instance → List Entry → Outcome → List Listed → Type 0
ReportLists inst log o vs =
    (s : State) × (worked totals : List Listed) × IsRun inst log s × LogLists inst log (length log) worked × TotalLists inst (length log) s o totals × (vs ≡ worked ++ totals)

-- what is worked for an answer: nothing without a log; up to the number at which log and run part; or all
abbrev pub AuditLists : Instance → Report → Audit → List Listed → Type 0
AuditLists inst r audit.NoLog vs = vs ≡ []
AuditLists inst r (audit.Log k) vs = (log : List Entry) × (r.log ≡ Some log) × LogLists inst log k vs
AuditLists inst r audit.Outcome vs = (log : List Entry) × (r.log ≡ Some log) × ReportLists inst log r.outcome vs
AuditLists inst r audit.Basis vs = (log : List Entry) × (r.log ≡ Some log) × ReportLists inst log r.outcome vs
AuditLists inst r (audit.Yes _) vs = (log : List Entry) × (r.log ≡ Some log) × ReportLists inst log r.outcome vs

-- all fits the width that is worked for the answer
abbrev pub AuditFits : ℕ → Instance → Report → Audit → Type 0
AuditFits w inst r a = (vs : List Listed) × AuditLists inst r a vs × AllFit w vs
