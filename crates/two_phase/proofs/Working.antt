-- How much is worked with factors.
use Rattle.std.proofs.Common.{ℕ, ◌≤◌, Bool, true, false, cond, arith}
use Rattle.two_phase.specs.declared.ground.Ground.{Ground}
use Rattle.two_phase.specs.declared.ground.Ground.TheVariants as ground
use Rattle.basis_solves.specs.Works.{solve_most}
use Rattle.two_phase.specs.Works.{ground_owed}

-- no more than a solve is owed
pub owed-most : (m : ℕ) (g : Ground) → ground_owed m g ≤ solve_most m
owed-most m (ground.Plain p) = omega arith
owed-most m (ground.Factors it) = by it.is_priced
  where
    by : (t : Bool) → cond t 0 (solve_most m) ≤ solve_most m
    by true = omega arith
    by false = omega arith
