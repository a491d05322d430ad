-- How much the parts of a step work.
use Rattle.std.specs.Prelude.{ℕ}
use Rattle.lp_model.specs.declared.Entry.TheVariants.{Flip, Swap, Turn}
use Rattle.two_phase.specs.declared.ground.Ground.{Ground}
use Rattle.two_phase.specs.declared.ground.Ground.TheVariants as ground
use Rattle.two_phase.specs.declared.reached.Reached.{Reached}
use Rattle.two_phase.specs.declared.reached.Reached.TheVariants as reached
use Rattle.basis_solves.specs.Works.{follow_work}

-- for the factors after what a step comes to, where they have had so many updates
abbrev pub reached_work : ℕ → ℕ → Reached → ℕ
reached_work m updates (reached.Entry (Swap q p end)) = follow_work m updates
reached_work m updates (reached.Entry (Flip q)) = 0
reached_work m updates (reached.Entry Turn) = 0
reached_work m updates (reached.End end) = 0
reached_work m updates reached.Spent = 0

abbrev pub ground_updates : Ground → ℕ
ground_updates (ground.Factors it) = it.factors.updates
ground_updates (ground.Plain p) = 0
