use Rattle.std.proofs.Common.{take}
use Rattle.lp_run.specs.Run.{IsRun}
use Rattle.lp_main.proofs.last_basis.last_basis.Given as goal

abbrev pub invariant-loop-k : goal.invariant-loop-k
invariant-loop-k l = IsRun l.inst (take l.k l.log) l.state
