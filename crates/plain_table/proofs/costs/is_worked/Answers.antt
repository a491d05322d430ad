-- A zero factor is found by a test.
use Rattle.std.proofs.Common.{inl, inr}
use Rattle.sparse_steps.proofs.Steps.{apart}
use Rattle.plain_table.proofs.Pricing.{skipped}
use Rattle.plain_table.proofs.costs.is_worked.Goals as goal
use Rattle.plain_table.proofs.costs.is_worked.Goals.{then-is_zero-via-then-is_zero, then-is_zero-via-else-is_zero+then-is_zero-2}

pub returns-then-is_zero-clause-none : goal.returns-then-is_zero-clause-none
returns-then-is_zero-clause-none c =
    elim c.then-is_zero.branch [
      | then-is_zero-via-then-is_zero w ↦ λ _. skipped _ _ (inl (c.is_zero.ensures.0 w.if-is_zero.true))
      | then-is_zero-via-else-is_zero+then-is_zero-2 w ↦ λ _. skipped _ _ (inr (w.is_zero-else-is_zero.ensures.0 w.if-is_zero-2.true))
    ]

pub returns-clause-some : goal.returns-clause-some
returns-clause-some c = λ _. (apart _ _ c.is_zero.ensures c.if-is_zero.false, apart _ _ c.is_zero-else-is_zero.ensures c.if-is_zero-2.false)
