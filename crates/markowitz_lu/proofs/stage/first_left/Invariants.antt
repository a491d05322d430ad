use Rattle.std.proofs.Common.{◌≡◌, ℕ, ◌<◌, false}
use Rattle.cross_links.specs.Matrix.{is_active}
use Rattle.markowitz_lu.proofs.stage.first_left.Given as goal

abbrev pub invariant-loop-i : goal.invariant-loop-i
invariant-loop-i l = (k : ℕ) → k < l.i → is_active l.left k ≡ false
