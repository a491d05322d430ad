-- The run of an instance: the states and entries from the start by Bland's rule, as far as a log goes.
use Rattle.std.specs.Prelude.{◌≡◌, ℕ, List, [], ◌∷◌, true, length}
use Rattle.lp_model.specs.declared.Entry.{Entry}
use Rattle.lp_model.specs.Log.{is_move, moves}
use Rattle.lp_run.specs.Instance.{Instance}
use Rattle.lp_run.specs.State.{State, after, start_of}
use Rattle.lp_run.specs.Step.{IsFinal, IsNext}

-- each entry of the log is the next one at its state, and the last state is s'
abbrev pub Leads : Instance → State → List Entry → State → Type 0
Leads inst s [] s' = s ≡ s'
Leads inst s (e ∷ log) s' = IsNext inst s e × Leads inst (after s e) log s'

-- the log is the first entries of the instance's run, and s is the state after them
abbrev pub IsRun : Instance → List Entry → State → Type 0
IsRun inst log s = Leads inst (start_of inst) log s

-- s is the state of number k: that after the first k entries of the run
abbrev pub IsAt : Instance → ℕ → State → Type 0
IsAt inst k s = (log : List Entry) × IsRun inst log s × (length log ≡ k)

-- the log is the whole run, which ends at s
abbrev pub IsWholeRun : Instance → List Entry → State → Type 0
IsWholeRun inst log s = IsRun inst log s × IsFinal inst s

-- the run meets a state with the budget's moves before it and a move next
abbrev pub IsSpent : Instance → ℕ → Type 0
IsSpent inst budget = (log : List Entry) × (s : State) × (e : Entry) × IsRun inst log s × IsNext inst s e × (is_move e ≡ true) × (moves log ≡ budget)
