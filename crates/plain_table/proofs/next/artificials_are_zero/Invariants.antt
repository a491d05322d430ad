use Rattle.std.proofs.Common.{◌≡◌, ℕ, ◌<◌}
use Rattle.rational.specs.Rational.{zero_ℚ}
use Rattle.rational.specs.Sum.{at}
use Rattle.lp_run.specs.State.{basic}
use Rattle.lp_run.specs.Step.{IsArtificial}
use Rattle.plain_table.proofs.next.artificials_are_zero.Given as goal

-- each artificial in a position before this one is 0
abbrev pub invariant-loop-p : goal.invariant-loop-p
invariant-loop-p l = (p : ℕ) → p < l.p → IsArtificial l.inst (basic l.state p) → at l.values p ≡ zero_ℚ
