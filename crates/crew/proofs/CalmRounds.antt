-- A round of the driver on a calm board, and what a run comes to.
use Rattle.std.proofs.Common.{◌≡◌, ◌↔◌, ℕ, ◌+◌, ◌-◌, ◌*◌, ◌<◌, Result, Ok, Err, IfErr, OnOk, length, false, refl, sym, subst}
use Rattle.std.specs.Result.{IsErr}
use Rattle.std.proofs.lemmas.Bool.{false≢true}
use Rattle.bland_ratio.specs.declared.tickets.Choice.{Choice}
use Rattle.bland_ratio.specs.declared.tickets.Ticket.{Ticket}
use Rattle.lp_run.specs.Instance.{Instance}
use Rattle.price_round.specs.Rounds.{NoneUnfit}
use Rattle.factor_run.specs.Calm.{IsCalm}
use Rattle.bland_laws.specs.Ends.{run_bound}
use Rattle.two_phase.specs.Board.{AreBuilt, BoardStands, HasGivenUpFor, HasNoCause, IsSameRun, standing_on}
use Rattle.two_phase.specs.Modes.{mode_of}
use Rattle.two_phase.specs.declared.standing.Mode.TheVariants as mode
use Rattle.two_phase.specs.Inner.Grounds.{WantsTable}
use Rattle.two_phase.specs.declared.board.Board.{Board}
use Rattle.two_phase.specs.declared.standing.Recorded.{Recorded}
use Rattle.two_phase.specs.declared.standing.Recorded.TheVariants as recorded
use Rattle.two_phase.specs.declared.standing.Standing.{Standing}
use Rattle.two_phase.specs.declared.standing.Standing.TheVariants as standing
use Rattle.two_phase.proofs.Rounds.{given, left}
use Rattle.crew.specs.Inner.Driving.{IsCalmOn, StandsOn}
use Rattle.crew.specs.Inner.Rounds.{GoesOn}
use Rattle.crew.proofs.Calms.{calm_asked, calm_stays, no_cause}
use Rattle.crew.proofs.Rounds.{entry_nearer, measure}

-- after a ticket
module _ {A : Type 0} (w : ℕ) (old : Board A) (h : BoardStands w old) (on : IsCalmOn w old) where
  pub none_there : HasNoCause w old
  none_there = no_cause w old h on.calm on.built on.factors

  pub asked_calm : (asked : Board A) → IsSameRun old asked → (AreBuilt w old → AreBuilt w asked)
      → (mode_of asked.ground ≡ mode.Plain) ↔ WantsTable w old.inst.value old.ground → IsCalmOn w asked
  asked_calm asked same built rescued = record {
    calm = subst (λ i. IsCalm w i.value) (sym same.instance) on.calm;
    built = built on.built;
    factors = calm_asked w old none_there asked rescued;
  }

-- after a choice that is not unfit
module _ {A : Type 0} (w w' : ℕ) (width : w' ≡ w) (asked : Board A) (h : BoardStands w asked) (on : IsCalmOn w asked) where
  pub none_now : HasNoCause w' asked
  none_now = subst (λ w. HasNoCause w asked) (sym width) (none_there w asked h on)

  pub taken_calm : (new : Board A) (choice : Choice) → choice.unfit ≡ false → IsSameRun asked new
      → (AreBuilt w' asked → AreBuilt w' new) → HasGivenUpFor w' asked new choice → IsCalmOn w new
  taken_calm new choice fits same built given = record {
    calm = subst (λ i. IsCalm w i.value) (sym same.instance) on.calm;
    built = subst (λ w. AreBuilt w new) width (built (subst (λ w. AreBuilt w asked) (sym width) on.built));
    factors = calm_stays w' asked none_now new choice fits given;
  }

-- no column of a ticket is unfit, where the ticket, its instance and the width are known by another name
pub none_there_unfit : (w' w : ℕ) → w' ≡ w → (i' i : Instance) → i' ≡ i → (t' t : Ticket) → t' ≡ t → NoneUnfit w i t → NoneUnfit w' i' t'
none_there_unfit w' w width i' i inst t' t ticket none =
    subst (λ w. NoneUnfit w i' t') (sym width) (subst (λ i. NoneUnfit w i t') (sym inst) (subst (λ t. NoneUnfit w i t) (sym ticket) none))

-- two things that hold of a refusal
pub both_err : {A E : Type 0} (P Q : E → Type 0) (r : Result A E) → IfErr r P → IfErr r Q → IfErr r (λ e. P e × Q e)
both_err P Q (Ok a) p q = tt
both_err P Q (Err e) p q = (p, q)

-- ── a round that does not end the run ──

-- leaves it running
pub goes_running : {A : Type 0} (old new : Board A) (r : Recorded) → GoesOn old new r → ((s : Standing) → r ≡ recorded.Ended s → ⊥) → standing_on new ≡ standing.Running
goes_running old new (recorded.Entry e) goes more = goes.1
goes_running old new recorded.Rescued goes more = goes.1
goes_running old new (recorded.Ended s) goes more = absurd (more s refl)

-- and brings it nearer to its end
pub goes_nearer : {A : Type 0} (w : ℕ) (old new : Board A) → BoardStands w old → StandsOn w old new → (r : Recorded) → GoesOn old new r
    → ((s : Standing) → r ≡ recorded.Ended s → ⊥) → measure w new < measure w old
goes_nearer w old new h same (recorded.Entry e) goes more = entry_nearer w old new h same.stands same.instance e goes.0
goes_nearer w old new h same recorded.Rescued (log, running, was, now) more =
    subst (λ i. 2 * (run_bound i.value - length new.log) + left new.ground < measure w old) (sym same.instance)
    (given (run_bound old.inst.value) old.log new.log old.ground new.ground log was now)
goes_nearer w old new h same (recorded.Ended s) goes more = absurd (more s refl)

-- a refusal owes nothing of an answer
pub refused_on : {A E : Type 0} (P : Type 0) (r : Result A E) → IsErr r → OnOk r P
refused_on P (Ok a) is = absurd (false≢true is)
refused_on P (Err e) is = tt
