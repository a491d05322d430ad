use Rattle.std.proofs.Common.{ℕ, ◌<◌}
use Rattle.lp_run.specs.Step.{Eligible}
use Rattle.plain_table.specs.Next.{prices}
use Rattle.plain_table.proofs.table.Table.entering.Given as goal

-- none of the columns before this one is eligible
abbrev pub invariant-loop-j : goal.invariant-loop-j
invariant-loop-j l = (j : ℕ) → j < l.j → Eligible l.inst l.self.state (prices l.inst l.self) j → ⊥
