-- Drafts: factors that are worked beside a board, and how they come into it.
use Rattle.std.specs.Prelude.{◌≡◌, ℕ, ◌≤◌, nat_le, nat_lt, Result, Ok, Err, if◌then◌else◌}
use Rattle.lp_run.specs.Instance.{Instance, row_count}
use Rattle.lp_run.specs.Run.{IsAt}
use Rattle.lp_run.specs.Solution.{basis_entry}
use Rattle.factor_model.specs.Factors.{AreFactors, Factors, most_updates}
use Rattle.two_phase.specs.declared.board.Board.{Board}
use Rattle.two_phase.specs.declared.draft.Draft.{Draft}
use Rattle.two_phase.specs.declared.ground.Ground.{Ground}
use Rattle.two_phase.specs.declared.ground.Ground.TheVariants as ground
use Rattle.two_phase.specs.declared.standing.Mode.{Mode}
use Rattle.two_phase.specs.declared.standing.Mode.TheVariants as mode
use Rattle.two_phase.specs.declared.switch.SwapFault.{SwapFault}
use Rattle.two_phase.specs.declared.switch.SwapFault.TheVariants as swap
use Rattle.two_phase.specs.Inner.Iterates.{HasFollowed}

-- a draft's factors are of its state's basis, with no more updates than they may have since its base, which is not above its number
pub record DraftStands (d : Draft) : Type 0 where
  pub factors : AreFactors (row_count d.inst.value) d.factors (basis_entry d.inst.value d.state)
  pub few : d.factors.updates ≤ most_updates
  pub base : d.factors.base ≡ d.base
  pub early : d.base ≤ d.number

-- its state is the run's at its number
abbrev pub IsOfRun : Draft → Type 0
IsOfRun d = IsAt d.inst.value d.number d.state

-- a draft for the instance's run, of a state whose number is not above k
pub record IsDraftFor (inst : Instance) (k : ℕ) (d : Draft) : Type 0 where
  pub stands : DraftStands d
  pub instance : d.inst.value ≡ inst
  pub number : d.number ≤ k
  pub run : IsOfRun d

-- what a board of this mode, epoch and number answers to a draft
abbrev pub swap_answer : Mode → ℕ → ℕ → Draft → Result (Unit {0}) SwapFault
swap_answer mode.Plain epoch number d = Err (swap.Plain d)
swap_answer mode.Factors epoch number d =
    if nat_le d.base epoch then Err (swap.Older d epoch) else (if nat_lt d.number number then Err (swap.Behind d number) else Ok tt)

-- these factors have come in place of the ones that were stood on, and nothing else has changed
abbrev pub TakesFactors : Factors → Ground → Ground → Type 0
TakesFactors f (ground.Factors old) (ground.Factors new) = HasFollowed old new × (new.factors ≡ f)
TakesFactors f (ground.Factors old) (ground.Plain p) = ⊥
TakesFactors f (ground.Plain p) new = ⊥

-- the draft's factors have come into the board, with their updates, and its base as epoch; all else is as it was
pub record IsSwitched {A : Type 0} (d : Draft) (old new : Board A) : Type 0 where
  pub factors : TakesFactors d.factors old.ground new.ground
  pub updates : new.updates ≡ d.factors.updates
  pub epoch : new.epoch ≡ d.base
  pub log : new.log ≡ old.log
  pub course : new.course ≡ old.course
  pub instance : new.inst ≡ old.inst
  pub budget : new.budget ≡ old.budget
  pub arith : new.arith ≡ old.arith
