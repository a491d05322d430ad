-- How much a round over factors of m rows works, in products and quotients.
use Rattle.std.specs.Prelude.{ℕ, ◌+◌, ◌*◌, if◌then◌else◌}
use Rattle.lp_model.specs.declared.Entry.TheVariants.{Flip, Swap, Turn}
use Rattle.basis_solves.specs.Works.{follow_work, solve_most}
use Rattle.two_phase.specs.declared.ground.Ground.{Ground}
use Rattle.two_phase.specs.declared.ground.Ground.TheVariants as ground
use Rattle.two_phase.specs.declared.iterate.Iterate.{Iterate}
use Rattle.two_phase.specs.declared.standing.Recorded.{Recorded}
use Rattle.two_phase.specs.declared.standing.Recorded.TheVariants as recorded

-- the prices, where they are not worked yet
abbrev pub owed : ℕ → Iterate → ℕ
owed m it = if it.is_priced then 0 else solve_most m

-- the same of what is stood on; once factors are given up nothing is bounded
abbrev pub ground_owed : ℕ → Ground → ℕ
ground_owed m (ground.Factors it) = owed m it
ground_owed m (ground.Plain p) = 0

-- the column that enters, its limit and the basic values after its move
abbrev pub move_work : ℕ → ℕ
move_work m = solve_most m + 3 * m

-- the factors after what a record comes to, where they have had so many updates
abbrev pub recorded_work : ℕ → ℕ → Recorded → ℕ
recorded_work m updates (recorded.Entry (Swap q p end)) = follow_work m updates
recorded_work m updates (recorded.Entry (Flip q)) = 0
recorded_work m updates (recorded.Entry Turn) = 0
recorded_work m updates recorded.Rescued = 0
recorded_work m updates (recorded.Ended s) = 0
