-- What the driver keeps of a board.
use Rattle.std.specs.Prelude.{◌≡◌, ℕ}
use Rattle.factor_run.specs.Calm.{IsCalm}
use Rattle.two_phase.specs.Board.{AreBuilt, BoardStands, standing_on}
use Rattle.two_phase.specs.Inner.Grounds.{IsPlain}
use Rattle.two_phase.specs.declared.board.Board.{Board}
use Rattle.two_phase.specs.declared.standing.Standing.TheVariants as standing

-- it stands at the width w, and its run goes on
pub record IsRunning {A : Type 0} (w : ℕ) (b : Board A) : Type 0 where
  pub stands : BoardStands w b
  pub running : standing_on b ≡ standing.Running

-- it stands at the width w, and is of the same run
pub record StandsOn {A : Type 0} (w : ℕ) (old new : Board A) : Type 0 where
  pub stands : BoardStands w new
  pub instance : new.inst ≡ old.inst
  pub budget : new.budget ≡ old.budget

-- its instance is calm, and it works with factors that are built along its log: no value that is worked with them is unfit
pub record IsCalmOn {A : Type 0} (w : ℕ) (b : Board A) : Type 0 where
  pub calm : IsCalm w b.inst.value
  pub built : AreBuilt w b
  pub factors : IsPlain b.ground → ⊥
