-- How a column enters: the direction of its reduced cost, and the limit that decides its step.
use Rattle.std.specs.Prelude.{◌≡◌, ℕ, ◌⊎◌, List, None}
use Rattle.rational.specs.Rational.{ℚ}
use Rattle.rational.specs.Worked.{settle}
use Rattle.lp_run.specs.Instance.{Instance}
use Rattle.lp_run.specs.Solution.{reduced}
use Rattle.lp_run.specs.State.{State}
use Rattle.lp_run.specs.Step.{direction}
use Rattle.bland_ratio.specs.Leave.{Decides, RatioDoesNotFit, direction_where}
use Rattle.bland_ratio.specs.Pricing.{priced}
use Rattle.bland_ratio.specs.declared.ratio_test.RatioUnfit.{RatioUnfit}
use Rattle.two_phase.specs.declared.decision.Decision.{Decision}

-- column q, which is α in terms of the basis, goes in the direction of its reduced cost, and that limit decides its step
pub record IsDecided (inst : Instance) (s : State) (β y α : List ℚ) (q : ℕ) (d : Decision) : Type 0 where
  pub turns : direction (reduced inst s y q) ≡ direction_where d.down
  pub decides : Decides inst s q (direction (reduced inst s y q)) β α d.leave

-- a value that is worked for the reduced cost does not fit the width, or one of the ratio test does not
abbrev pub IsUndecided : ℕ → Instance → State → List ℚ → List ℚ → List ℚ → ℕ → Type 0
IsUndecided w inst s β y α q =
    (settle w (priced inst s.phase y q) ≡ None) ⊎ ((refusal : RatioUnfit) × RatioDoesNotFit w inst s q (direction (reduced inst s y q)) β α refusal)
