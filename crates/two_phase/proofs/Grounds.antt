-- What a run stands on, seen from its two kinds.
use Rattle.std.proofs.Common.{◌≡◌, ℕ, List, Result, Ok, Err, IfOk, OnErr, OnOk, refl, sym, ◌∙◌, subst}
use Rattle.lp_model.specs.declared.Entry.{Entry}
use Rattle.lp_run.specs.Instance.{Instance}
use Rattle.lp_run.specs.Run.{IsRun}
use Rattle.lp_run.specs.State.{State, start_of}
use Rattle.plain_table.proofs.Replays.{leads_one}
use Rattle.two_phase.specs.declared.fallback.Fallback.{Fallback}
use Rattle.two_phase.specs.declared.ground.Ground.{Ground}
use Rattle.two_phase.specs.declared.ground.Ground.TheVariants as ground
use Rattle.two_phase.specs.declared.reached.Reached.{Reached}
use Rattle.two_phase.specs.declared.reached.Reached.TheVariants as reached
use Rattle.two_phase.specs.declared.standing.Mode.TheVariants as mode
use Rattle.two_phase.specs.Modes.{mode_of}
use Rattle.two_phase.specs.Inner.Grounds.{FactorsGo, GroundReaches, GroundStands, HasCause, IsPlain, IsStill, KeepsFactors, WantsTable, ground_state}
use Rattle.two_phase.specs.declared.iterate.Iterate.{Iterate}
use Rattle.two_phase.specs.Inner.Fallbacks.{FallbackReaches}
use Rattle.two_phase.specs.Inner.Reaching.{Reaches}
use Rattle.two_phase.proofs.Fallbacks.{fallback_reached}

pub reached_by : (w : ℕ) (inst : Instance) (log : List Entry) (g : Ground) → GroundStands w inst log g → IsRun inst log (ground_state g)
reached_by w inst log (ground.Factors it) h = h.reached
reached_by w inst log (ground.Plain p) h = fallback_reached w inst log p h

-- at one log there is one state
pub one_state : (w w' : ℕ) (inst : Instance) (log : List Entry) (g g' : Ground) → GroundStands w inst log g → GroundStands w' inst log g' → ground_state g ≡ ground_state g'
one_state w w' inst log g g' h h' = leads_one inst (start_of inst) log (ground_state g) (ground_state g') (reached_by w inst log g h) (reached_by w' inst log g' h')

pub plain_ground : (w : ℕ) (inst : Instance) (budget : ℕ) (log : List Entry) (s : State) (log' : List Entry) (p' : Fallback) (r : Reached) → FallbackReaches w inst budget log s log' p' r
    → GroundReaches w inst budget log s log' (ground.Plain p') r
plain_ground w inst budget log s log' p' (reached.Entry e) h = h
plain_ground w inst budget log s log' p' (reached.End end) h = h
plain_ground w inst budget log s log' p' reached.Spent h = h

pub factors_ground : (w : ℕ) (inst : Instance) (budget : ℕ) (log : List Entry) (s : State) (log' : List Entry) (it' : Iterate) (r : Reached) → Reaches w inst budget log s log' it' r
    → GroundReaches w inst budget log s log' (ground.Factors it') r
factors_ground w inst budget log s log' it' (reached.Entry e) h = h
factors_ground w inst budget log s log' it' (reached.End end) h = h
factors_ground w inst budget log s log' it' reached.Spent h = h

-- what holds of an answer may be said otherwise
pub if_ok : {A E : Type 0} {P Q : A → Type 0} (r : Result A E) → ((a : A) → P a → Q a) → IfOk r P → IfOk r Q
if_ok (Ok a) f h = f a h
if_ok (Err e) f h = h

pub on_if : {A E P : Type 0} {Q : A → Type 0} (r : Result A E) → ((a : A) → P → Q a) → OnOk r P → IfOk r Q
on_if (Ok a) f h = f a h
on_if (Err e) f h = h

pub on_err : {A E P Q : Type 0} (r : Result A E) → (P → Q) → OnErr r P → OnErr r Q
on_err (Ok a) f h = h
on_err (Err e) f h = f h

-- ── where the factors are given up ──

pub mode_plain : (g : Ground) → mode_of g ≡ mode.Plain → IsPlain g
mode_plain (ground.Factors it) e = absurd cc
mode_plain (ground.Plain p) e = tt

pub plain_mode : (g : Ground) → IsPlain g → mode_of g ≡ mode.Plain
plain_mode (ground.Factors it) plain = absurd plain
plain_mode (ground.Plain p) plain = refl

pub plain_cause : (w : ℕ) (inst : Instance) (log : List Entry) (g : Ground) → IsPlain g → HasCause w inst log g
plain_cause w inst log (ground.Factors it) plain = absurd plain
plain_cause w inst log (ground.Plain p) plain = tt

pub plain_wants : (w : ℕ) (inst : Instance) (g : Ground) → IsPlain g → WantsTable w inst g
plain_wants w inst (ground.Factors it) plain = absurd plain
plain_wants w inst (ground.Plain p) plain = tt

pub not_plain : (g : Ground) → mode_of g ≡ mode.Factors → IsPlain g → ⊥
not_plain (ground.Factors it) factors plain = plain
not_plain (ground.Plain p) factors plain = absurd (cc factors)

-- then there are none to keep
pub plain_keeps : (g g' : Ground) → IsPlain g' → KeepsFactors g g'
plain_keeps g (ground.Plain p') plain = tt
plain_keeps g (ground.Factors it') plain = absurd plain

pub plain_goes : (w : ℕ) (inst : Instance) (k : ℕ) (g g' : Ground) (r : Reached) → IsPlain g' → FactorsGo w inst k g g' r
plain_goes w inst k g (ground.Plain p') r plain = tt
plain_goes w inst k g (ground.Factors it') r plain = absurd plain

-- ── what is still ──

pub plain_along : (g g' : Ground) → mode_of g' ≡ mode_of g → IsPlain g → IsPlain g'
plain_along g g' same plain = mode_plain g' (same ∙ plain_mode g plain)

pub still_here : (w : ℕ) (inst : Instance) (log : List Entry) (g g' : Ground) → GroundStands w inst log g → g' ≡ g → IsStill w inst log g g'
still_here w inst log g g' stands same = subst (IsStill w inst log g) (sym same) (record { stands = stands; state = refl; mode = refl; factors = itself g })
  where
    itself : (g : Ground) → KeepsFactors g g
    itself (ground.Factors it) = refl
    itself (ground.Plain p) = tt

-- what stands at one log in one mode, with no factors, is still
pub plain_still : (w : ℕ) (inst : Instance) (log : List Entry) (g g' : Ground) → GroundStands w inst log g → GroundStands w inst log g' → IsPlain g → IsPlain g' → IsStill w inst log g g'
plain_still w inst log g g' h h' plain plain' = record {
  stands = h';
  state = one_state w w inst log g' g h' h;
  mode = plain_mode g' plain' ∙ sym (plain_mode g plain);
  factors = plain_keeps g g' plain';
}
