-- On a calm instance factors that are built along the log are not given up.
use Rattle.std.proofs.Common.{◌≡◌, ℕ, List, Some}
use Rattle.lp_model.specs.declared.Entry.{Entry}
use Rattle.rational.specs.Worked.{settle}
use Rattle.lp_run.specs.Instance.{Instance}
use Rattle.factor_run.specs.Built.{built}
use Rattle.factor_run.specs.Calm.{IsCalm}
use Rattle.factor_run.specs.Causes.{prices}
use Rattle.factor_run.proofs.Calmness.{no_cause}
use Rattle.two_phase.specs.declared.ground.Ground.{Ground}
use Rattle.two_phase.specs.declared.ground.Ground.TheVariants as ground
use Rattle.two_phase.specs.Inner.Grounds.{GroundStands, HasCause, IsPlain, OnFactors, WantsTable}

module _ (w : ℕ) (inst : Instance) where
  -- the factors that are stood on
  pub calm_ground : IsCalm w inst → (log : List Entry) (g : Ground) → GroundStands w inst log g → OnFactors g (λ s f. settle w (built inst log) ≡ Some (Some f)) → (IsPlain g → ⊥)
      → HasCause w inst log g → ⊥
  calm_ground calm log (ground.Factors it) stands along factors cause = no_cause w inst calm log it.state it.factors stands.reached along cause
  calm_ground calm log (ground.Plain p) stands along factors cause = factors tt

  -- prices that do not fit are a cause
  pub wants_cause : (log : List Entry) (g : Ground) → WantsTable w inst g → HasCause w inst log g
  wants_cause log (ground.Factors it) (unpriced, unfit) = prices unfit
  wants_cause log (ground.Plain p) wants = tt
