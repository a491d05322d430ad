-- What a step works, seen from the board.
use Rattle.std.proofs.Common.{◌≡◌, ℕ, ◌+◌, ◌≤◌, List, Bool, true, false, Option, Some, None, IfSome, refl, ◌∙◌, ap, subst}
use Rattle.lp_model.specs.declared.Entry.{Entry}
use Rattle.lp_model.specs.declared.Entry.TheVariants.{Flip, Swap, Turn}
use Rattle.lp_run.specs.Instance.{Instance}
use Rattle.two_phase.specs.declared.ground.Ground.{Ground}
use Rattle.two_phase.specs.declared.ground.Ground.TheVariants as ground
use Rattle.two_phase.specs.declared.reached.Reached.{Reached}
use Rattle.two_phase.specs.declared.reached.Reached.TheVariants as reached
use Rattle.two_phase.specs.declared.standing.Mode.TheVariants as mode
use Rattle.two_phase.specs.Board.{AreCounts}
use Rattle.two_phase.specs.Modes.{mode_of}
use Rattle.two_phase.specs.Standing.{answer_of}
use Rattle.two_phase.specs.Inner.Grounds.{HasCause, IsPlain, OnFactors}
use Rattle.two_phase.specs.Inner.Works.{ground_updates, reached_work}
use Rattle.two_phase.specs.Works.{recorded_work}

-- without a cause there are factors, whose updates are counted
pub updates_there : (w : ℕ) (inst : Instance) (log : List Entry) (g : Ground) (updates epoch : ℕ) → OnFactors g (AreCounts updates epoch) → (HasCause w inst log g → ⊥) → ground_updates g ≡ updates
updates_there w inst log (ground.Factors it) updates epoch counts none = counts.0
updates_there w inst log (ground.Plain p) updates epoch counts none = absurd (none tt)

recorded_is : (m updates : ℕ) (r : Reached) → reached_work m updates r ≡ recorded_work m updates (answer_of (Some r))
recorded_is m updates (reached.Entry (Flip q)) = refl
recorded_is m updates (reached.Entry (Swap q p end)) = refl
recorded_is m updates (reached.Entry Turn) = refl
recorded_is m updates (reached.End end) = refl
recorded_is m updates reached.Spent = refl

pub true_apart : (b : Bool) → b ≡ true → b ≡ false → ⊥
true_apart b t f = cc

-- what is worked for a step is worked for its record
pub recorded_spent : (m u u' old new owes moved : ℕ) (unfit : Bool) (gone : Option Reached) → u ≡ u' → unfit ≡ false → (gone ≡ None → unfit ≡ true)
    → IfSome gone (λ r. new ≤ old + (owes + (moved + reached_work m u r))) → new ≤ old + (owes + (moved + recorded_work m u' (answer_of gone)))
recorded_spent m u u' old new owes moved unfit None same fits rescued work = absurd (true_apart unfit (rescued refl) fits)
recorded_spent m u u' old new owes moved unfit (Some r) same fits rescued work =
    subst (λ n. new ≤ old + (owes + (moved + n))) (recorded_is m u r ∙ ap (λ u. recorded_work m u (answer_of (Some r))) same) work

pub factors_mode : (g : Ground) → (IsPlain g → ⊥) → mode_of g ≡ mode.Factors
factors_mode (ground.Factors it) factors = refl
factors_mode (ground.Plain p) factors = absurd (factors tt)
