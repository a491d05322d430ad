-- Bland's theorem for the runs of instances.
use Rattle.std.proofs.Common.{◌≡◌, ℕ, ◌+◌, ◌*◌, ◌^◌, ◌<◌, ◌≤◌, List, [], ◌∷◌, length, get_or, refl, ap, subst, arith}
use Rattle.lp_model.specs.declared.Entry.{Entry}
use Rattle.lp_model.specs.declared.Status.TheVariants as status
use Rattle.lp_run.specs.Instance.{IsWellFormed, Instance, column_count, row_count, structural_count}
use Rattle.lp_run.specs.Run.{IsRun}
use Rattle.lp_model.specs.Log.{moves}
use Rattle.lp_run.specs.State.{State, start_of}
use Rattle.bland_laws.specs.Ends.{Ends, NeverReturns, run_bound}
use Rattle.bland_laws.proofs.Always.{instance_holds}
use Rattle.bland_laws.proofs.Counts.{choices, few_moves, short}
use Rattle.bland_laws.proofs.Cycles.{no_return}
use Rattle.bland_laws.proofs.Existence.{some_outcome, whole_run}
use Rattle.bland_laws.proofs.Bounded.{is_bounded}
use Rattle.bland_laws.proofs.Starting.{start_holds}
use Rattle.lp_run.proofs.Start.{start_has_table}
use Rattle.bland_laws.proofs.Phases.{leads_holds}
use Rattle.bland_laws.proofs.Single.{one_outcome, one_whole}

module _ (inst : Instance) (h : IsWellFormed inst) where
  pub bland : NeverReturns inst
  bland before [] s s' run leads phases statuses = refl
  bland before (e ∷ log) s s' run leads phases statuses =
      let k = instance_holds inst h before s run in
      absurd (no_return inst (is_bounded inst h) s s' k (leads_holds inst (is_bounded inst h) s k (e ∷ log) s' leads) phases
      (λ j b. ap (λ sts. get_or sts j status.Lower) statuses) e log leads)

  bound_is : 2 * choices inst ≡ run_bound inst
  bound_is = ap (λ n. 2 * 3 ^ n) columns_are
    where
      columns_are : column_count inst ≡ structural_count inst + 2 * row_count inst
      columns_are = omega arith

  run_short : (log : List Entry) (s : State) → IsRun inst log s → length log < run_bound inst
  run_short log s run = subst (λ n. length log < n) bound_is (short inst (is_bounded inst h) (start_of inst) (start_holds inst h) log s run)

  run_moves : (log : List Entry) (s : State) → IsRun inst log s → moves log < run_bound inst
  run_moves log s run = subst (λ n. moves log < n) bound_is (few_moves inst (is_bounded inst h) (start_of inst) (start_holds inst h) log s run)

  pub ends : Ends inst
  ends = record {
    short = run_short;
    never_spent = λ budget most spent. not_spent (moves spent.0) budget (run_bound inst) most (run_moves spent.0 spent.1 spent.3) spent.6;
    whole = whole_run inst h;
    one = λ log log' s s' run run'. (one_whole inst (start_of inst) (start_has_table inst) log log' s s' run.0 run.1 run'.0 run'.1).0;
    outcome = some_outcome inst h;
    one_outcome = one_outcome inst (start_has_table inst);
  }
    where
      not_spent : (made budget bound : ℕ) → bound ≤ budget → made < bound → made ≡ budget → ⊥
      not_spent made budget bound most less same = omega arith
