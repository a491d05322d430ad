-- At one number a run has one state.
use Rattle.std.proofs.Common.{◌≡◌, ℕ, sym, ◌∙◌}
use Rattle.lp_run.specs.Instance.{Instance}
use Rattle.lp_run.specs.Run.{IsAt}
use Rattle.lp_run.specs.State.{State, start_of}
use Rattle.lp_run.proofs.Kept.{one_log}
use Rattle.lp_run.proofs.Start.{start_has_table}

pub one_at : (inst : Instance) (k k' : ℕ) (s s' : State) → k ≡ k' → IsAt inst k s → IsAt inst k' s' → s ≡ s'
one_at inst k k' s s' same (log, run, number) (log', run', number') =
    (one_log inst (start_of inst) (start_has_table inst) log log' s s' run run' (number ∙ same ∙ sym number')).1
