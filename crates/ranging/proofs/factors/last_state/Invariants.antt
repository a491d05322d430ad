use Rattle.std.proofs.Common.{take}
use Rattle.lp_run.specs.Run.{IsRun}
use Rattle.ranging.proofs.factors.last_state.Given as goal

-- the state has taken in the entries so far
abbrev pub invariant-loop-k : goal.invariant-loop-k
invariant-loop-k l = IsRun l.inst (take l.k l.log) l.state
