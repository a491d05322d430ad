-- What an end shows.
use Rattle.std.proofs.Common.{◌≡◌, ◌<◌, List, length, refl, sym, subst}
use Rattle.lp_model.specs.declared.Entry.{Entry}
use Rattle.rational.specs.Rational.{ℚ}
use Rattle.lp_run.specs.Instance.{Instance, IsWellFormed, column_count, row_count}
use Rattle.lp_run.specs.Run.{IsRun}
use Rattle.lp_run.specs.State.{State}
use Rattle.lp_run.proofs.Runs.{reached_has_table}
use Rattle.bland_laws.proofs.Always.{instance_holds}
use Rattle.run_outcome.specs.Endings.{Stops}
use Rattle.run_outcome.specs.declared.stop.Stop.{Stop}
use Rattle.run_outcome.specs.declared.stop.Stop.TheVariants as stop
use Rattle.plain_table.specs.Next.{column, prices}
use Rattle.plain_table.specs.Plain.{Plain}
use Rattle.two_phase.specs.Inner.Plains.{TableStops, free_column}

-- the lists of a state of the run
pub one_position_each : (inst : Instance) (log : List Entry) (s : State) → IsRun inst log s → length s.basis ≡ row_count inst
one_position_each inst log s run = (reached_has_table inst log s run).positions

pub one_status_each : (inst : Instance) → IsWellFormed inst → (log : List Entry) (s : State) → IsRun inst log s → length s.statuses ≡ column_count inst
one_status_each inst well_formed log s run = (instance_holds inst well_formed log s run).each

-- an end by the same lists
pub stops_there : (inst : Instance) (s s' : State) (y y' β β' α α' : List ℚ) (end : Stop) → s' ≡ s → y' ≡ y → β' ≡ β → α' ≡ α → Stops inst s y β α end → Stops inst s' y' β' α' end
stops_there inst s s' y y' β β' α α' end is prices values solved h =
    subst (λ s. Stops inst s y' β' α' end) (sym is) (subst (λ y. Stops inst s y β' α' end) (sym prices) (subst (λ β. Stops inst s y β α' end) (sym values) (subst (λ α. Stops inst s y β α end) (sym solved) h)))

-- an end of a table, by lists that are the table's; a column that no end has may be any
pub table_stops_there : (inst : Instance) (t : Plain) (s' : State) (y' β' α' : List ℚ) (end : Stop) → s' ≡ t.state → y' ≡ prices inst t → β' ≡ t.values
    → (free_column end < column_count inst → α' ≡ column inst t (free_column end)) → TableStops inst t end → Stops inst s' y' β' α' end
table_stops_there inst t s' y' β' α' stop.Optimal is priced values solved h = stops_there inst t.state s' (prices inst t) y' t.values β' α' α' stop.Optimal is priced values refl h
table_stops_there inst t s' y' β' α' stop.Infeasible is priced values solved h = stops_there inst t.state s' (prices inst t) y' t.values β' α' α' stop.Infeasible is priced values refl h
table_stops_there inst t s' y' β' α' (stop.Free q down) is priced values solved h =
    stops_there inst t.state s' (prices inst t) y' t.values β' (column inst t q) α' (stop.Free q down) is priced values (solved h.0.0.enters.eligible.in_range) h
