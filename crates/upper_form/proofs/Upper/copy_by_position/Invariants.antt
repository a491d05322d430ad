use Rattle.std.proofs.Common.{◌≡◌, ℕ, ◌<◌}
use Rattle.rational.specs.Sum.{at}
use Rattle.factor_model.specs.Upper.{row_of}
use Rattle.upper_form.proofs.Upper.copy_by_position.Given as goal

abbrev pub invariant-loop-p : goal.invariant-loop-p
invariant-loop-p l = (k : ℕ) → k < l.p → at l.out k ≡ at l.rows (row_of l.self k)
