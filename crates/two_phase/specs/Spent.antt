-- A run whose budget is spent.
use Rattle.std.specs.Prelude.{◌≡◌, ℕ, List, length, true}
use Rattle.lp_model.specs.declared.Entry.{Entry}
use Rattle.lp_model.specs.Log.{is_move, moves}
use Rattle.lp_run.specs.Instance.{Instance}
use Rattle.lp_run.specs.Run.{IsRun}
use Rattle.lp_run.specs.State.{State}
use Rattle.lp_run.specs.Step.{IsNext}

-- at the state s of number k: the budget's moves lead to it, and a move is next
abbrev pub IsSpentAt : Instance → ℕ → ℕ → State → Type 0
IsSpentAt inst budget k s = (log : List Entry) × (e : Entry) × IsRun inst log s × (length log ≡ k) × (moves log ≡ budget) × IsNext inst s e × (is_move e ≡ true)
