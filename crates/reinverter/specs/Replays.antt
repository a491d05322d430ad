-- How a draft is begun, and what an entry of the run makes of it.
use Rattle.std.specs.Prelude.{◌≡◌, ℕ, ◌+◌, Result, Ok, Err}
use Rattle.lp_model.specs.declared.Entry.{Entry}
use Rattle.lp_model.specs.declared.Entry.TheVariants.{Flip, Swap, Turn}
use Rattle.rational.specs.Worked.{Worked, bind, done}
use Rattle.lp_run.specs.Instance.{Instance}
use Rattle.lp_run.specs.State.{after}
use Rattle.factor_model.specs.Factors.{Factors, ftran, updated}
use Rattle.factor_run.specs.Built.{entering_column}
use Rattle.basis_solves.specs.Refusals.{count_after}
use Rattle.two_phase.specs.declared.draft.Draft.{Draft}
use Rattle.two_phase.specs.declared.draft.Snapshot.{Snapshot}
use Rattle.reinverter.specs.declared.replaying.ReplayFault.{ReplayFault}

-- the draft is of the snapshot's state and number, which is its base
pub record IsBegun (inst : Instance) (snapshot : Snapshot) (d : Draft) : Type 0 where
  pub instance : d.inst.value ≡ inst
  pub base : d.base ≡ snapshot.number
  pub number : d.number ≡ snapshot.number
  pub state : d.state ≡ snapshot.state

-- column q is solved for, and the factors are updated by its spike in position p
abbrev pub exchanged_once : Instance → Factors → ℕ → ℕ → Worked Factors
exchanged_once inst f q p = bind (ftran f (entering_column inst q)) (λ solved. updated f p solved.0)

-- the factors after an entry of the run
abbrev pub replayed : Instance → Factors → Entry → Worked Factors
replayed inst f (Swap q p end) = exchanged_once inst f q p
replayed inst f (Flip q) = done f
replayed inst f Turn = done f

-- number and state of the draft have gone on by the entry
pub record IsReplayed (e : Entry) (old new : Draft) : Type 0 where
  pub instance : new.inst ≡ old.inst
  pub base : new.base ≡ old.base
  pub number : new.number ≡ old.number + 1
  pub state : new.state ≡ after old.state e

-- the count of unfit results after a replay
abbrev pub replay_count : ℕ → Result Draft ReplayFault → ℕ
replay_count count (Ok d) = count
replay_count count (Err refused) = count_after {A = Draft} count (Err refused.fault)
