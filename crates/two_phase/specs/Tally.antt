-- How much the rounds of a run over factors have worked.
use Rattle.std.specs.Prelude.{◌≡◌, ℕ, ◌+◌, ◌*◌, ◌≤◌, List, [], length}
use Rattle.lp_model.specs.declared.Entry.{Entry}
use Rattle.lp_model.specs.Log.{moves}
use Rattle.lp_run.specs.Instance.{Instance}
use Rattle.factor_run.specs.Bound.{making_work, round_work}
use Rattle.two_phase.specs.declared.board.Board.{Board}
use Rattle.two_phase.specs.declared.standing.Recorded.{Recorded}
use Rattle.two_phase.specs.declared.standing.Recorded.TheVariants as recorded
use Rattle.two_phase.specs.declared.standing.Mode.TheVariants as mode
use Rattle.two_phase.specs.Board.{AreBuilt}
use Rattle.two_phase.specs.Inner.Grounds.{IsPlain}
use Rattle.two_phase.specs.Modes.{mode_of}

-- these products and quotients are of so many rounds along the log, and of a factorisation after each 64 updates; so many updates have come since the last
pub record IsTally (inst : Instance) (log : List Entry) (rounds updates spent : ℕ) : Type 0 where
  pub makings : ℕ
  pub rare : 65 * makings + updates ≤ moves log
  pub bounded : spent ≤ rounds * round_work inst + makings * making_work inst

-- so much has been worked since a count stood at `before`
abbrev pub HasWorked : Instance → List Entry → ℕ → ℕ → ℕ → ℕ → Type 0
HasWorked inst log rounds updates before now = (spent : ℕ) × IsTally inst log rounds updates spent × (now ≤ before + spent)

-- the board is at the start of its run, with factors that are built along it
pub record IsFresh {A : Type 0} (w : ℕ) (b : Board A) : Type 0 where
  pub factors : mode_of b.ground ≡ mode.Factors
  pub built : AreBuilt w b
  pub log : b.log ≡ []
  pub updates : b.updates ≡ 0

-- after a round on a board that keeps its factors, so much has been worked
abbrev pub HasRoundWorked : {A : Type 0} → Instance → Board A → ℕ → ℕ → Recorded → Type 0
HasRoundWorked inst b before now (recorded.Entry e) = (IsPlain b.ground → ⊥) × HasWorked inst b.log (length b.log) b.updates before now
HasRoundWorked inst b before now recorded.Rescued = ⊥
HasRoundWorked inst b before now (recorded.Ended s) = HasWorked inst b.log (length b.log + 1) b.updates before now
