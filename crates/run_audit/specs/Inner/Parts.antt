-- What the parts of an audit keep and answer.
use Rattle.std.specs.Prelude.{◌≡◌, ◌≢◌, ℕ, ◌⊎◌, List, [], ◌∷◌, ◌++◌, Some, Bool, true, false}
use Rattle.lp_model.specs.declared.Entry.{Entry}
use Rattle.lp_model.specs.declared.Place.{Place}
use Rattle.lp_model.specs.Outcome.{Outcome}
use Rattle.rational.specs.Rational.{ℚ}
use Rattle.lp_run.specs.Ends.{ray}
use Rattle.lp_run.specs.Instance.{Instance}
use Rattle.lp_run.specs.Listing.{AllFit, Listed, first_unfit, total_listing}
use Rattle.lp_run.specs.Solution.{reduced}
use Rattle.lp_run.specs.State.{State}
use Rattle.lp_run.specs.Step.{IsFinal, IsNext, direction}
use Rattle.table_laws.specs.Fitted.{HasFitted, HasOverflown}
use Rattle.instance_model.specs.declared.making.InstanceFault.{InstanceFault}
use Rattle.instance_model.specs.declared.making.InstanceFault.TheVariants as unmade
use Rattle.plain_table.specs.Next.{EndsBy, OverflowsNext, RatioLists, column, prices}
use Rattle.plain_table.specs.Plain.{Plain, Stands}
use Rattle.plain_table.specs.declared.faults.TableFault.{TableFault}
use Rattle.plain_table.specs.declared.faults.TableFault.TheVariants as untabled
use Rattle.run_audit.specs.declared.fault.AuditFault.{AuditFault}
use Rattle.run_audit.specs.declared.fault.AuditFault.TheVariants as fault
use Rattle.run_audit.specs.declared.follow.Met.{Met}
use Rattle.run_audit.specs.declared.follow.Met.TheVariants as met
use Rattle.run_audit.specs.Judged.{PartsAt}
use Rattle.run_audit.specs.Works.{HasOptimum, LogLists, ReportLists}

-- the fault of an audit where no instance, or no table, is made
abbrev pub of_instance : InstanceFault → AuditFault
of_instance unmade.Memory = fault.Memory
of_instance (unmade.Overflow here) = fault.Overflow here

abbrev pub of_table : TableFault → AuditFault
of_table untabled.Memory = fault.Memory
of_table (untabled.Overflow here) = fault.Overflow here

-- the table stands at the state that the log reaches, and all that is worked before fits
abbrev pub Follows : ℕ → Instance → List Entry → Plain → Type 0
Follows w inst log t = Stands inst log t × HasFitted w inst log

-- the ratio test at the table fits
abbrev pub TestFits : ℕ → Instance → Plain → Type 0
TestFits w inst t = (vs : List Listed) → RatioLists inst t.number t.state vs → AllFit w vs

-- its first value that does not fit stands here, which is the first of all that is listed under the table's number
abbrev pub TestOverflows : ℕ → Instance → Plain → Place → Type 0
TestOverflows w inst t here = ((vs : List Listed) → RatioLists inst t.number t.state vs → first_unfit w vs ≡ Some here) × OverflowsNext w inst t here

-- the run does not go on from the table with the entry, and the ratio test fits
abbrev pub Departs : ℕ → Instance → Plain → Entry → Type 0
Departs w inst t e = (IsFinal inst t.state ⊎ ((own : Entry) × IsNext inst t.state own × (own ≢ e))) × TestFits w inst t

-- the table follows the log with the entry, where it goes along; else it stays, and the run departs from the entry
abbrev pub Goes : ℕ → Instance → List Entry → Plain → Entry → Plain → Bool → Type 0
Goes w inst log t e t' true = Follows w inst (log ++ e ∷ []) t'
Goes w inst log t e t' false = (t' ≡ t) × Departs w inst t e

-- why the table does not take in the entry after a log
abbrev pub EntryOverflows : ℕ → Instance → List Entry → Plain → Entry → Place → Type 0
EntryOverflows w inst log t e here = TestOverflows w inst t here ⊎ (IsNext inst t.state e × HasOverflown w inst (log ++ e ∷ []) here)

-- log and run part at the number, and what is worked up to it fits; or the table follows the whole log, where the run ends so
abbrev pub Meets : ℕ → Instance → List Entry → Plain → Met → Type 0
Meets w inst log t (met.Parts k) = PartsAt inst log k × ((vs : List Listed) × LogLists inst log k vs × AllFit w vs)
Meets w inst log t (met.End end) = Follows w inst log t × EndsBy inst t end × TestFits w inst t

-- of what is worked up to a number, before which log and run agree, the first value that does not fit stands here
abbrev pub LogOverflows : ℕ → Instance → List Entry → Place → Type 0
LogOverflows w inst log here = (k : ℕ) × (vs : List Listed) × LogLists inst log k vs × (first_unfit w vs ≡ Some here)

-- of the sums of the objective
abbrev pub TotalOverflows : ℕ → Instance → ℕ → State → Outcome → AuditFault → Type 0
TotalOverflows w inst k s o fault.Memory = Unit {0}
TotalOverflows w inst k s o (fault.Overflow here) = (x : List ℚ) × HasOptimum inst s o x × (first_unfit w (total_listing inst k x) ≡ Some here)

-- of what is worked along the log, as far as it agrees with the run, or of all where it is the whole run
abbrev pub IsAlongCause : ℕ → Instance → List Entry → Outcome → AuditFault → Type 0
IsAlongCause w inst log o fault.Memory = Unit {0}
IsAlongCause w inst log o (fault.Overflow here) = LogOverflows w inst log here ⊎ ((vs : List Listed) × ReportLists inst log o vs × (first_unfit w vs ≡ Some here))

-- the ray along which column q moves without a limit from the table's state
abbrev pub ray_at : Instance → Plain → ℕ → List ℚ
ray_at inst t q = ray inst t.state q (direction (reduced inst t.state (prices inst t) q)) (column inst t q)
