-- The board of a run: what stands on it between any two calls, and what its calls answer.
use Rattle.std.specs.Prelude.{◌≡◌, ◌≢◌, ℕ, ◌+◌, ◌<◌, ◌≤◌, ◌==◌, ◌⊎◌, List, [], ◌∷◌, ◌++◌, length, Some, true, false, if◌then◌else◌}
use Rattle.lp_model.specs.declared.Entry.{Entry}
use Rattle.lp_model.specs.declared.Entry.TheVariants.{Flip, Swap, Turn}
use Rattle.lp_model.specs.declared.Place.{Place}
use Rattle.lp_model.specs.Log.{moves}
use Rattle.rational.specs.Rational.{ℚ}
use Rattle.rational.specs.Sum.{at}
use Rattle.rational.specs.Width.{fits_width}
use Rattle.rational.specs.Worked.{settle}
use Rattle.exact_frac.specs.Count.{raised}
use Rattle.lp_run.specs.Instance.{Instance, IsWellFormed, row_count}
use Rattle.lp_run.specs.Listing.{IsFirstTotal, IsFirstUnfit, StartFits}
use Rattle.lp_run.specs.Run.{IsAt, IsRun}
use Rattle.lp_run.specs.Solution.{Values, basis_entry}
use Rattle.lp_run.specs.State.{State, start_of}
use Rattle.lp_run.specs.Step.{EndsFree, EndsInfeasible, EndsOptimal, IsNext}
use Rattle.bland_ratio.specs.Pricing.{IsExactChoice}
use Rattle.bland_ratio.specs.declared.tickets.Choice.{Choice}
use Rattle.factor_model.specs.Factors.{AreFactors, Factors, most_updates}
use Rattle.factor_run.specs.Built.{built}
use Rattle.two_phase.specs.declared.board.Board.{Board}
use Rattle.two_phase.specs.declared.ground.Ground.{Ground}
use Rattle.two_phase.specs.declared.standing.BoardFault.{BoardFault}
use Rattle.two_phase.specs.declared.standing.BoardFault.TheVariants as fault
use Rattle.two_phase.specs.declared.standing.Course.{Course}
use Rattle.two_phase.specs.declared.standing.Course.TheVariants as course
use Rattle.two_phase.specs.declared.standing.Mode.TheVariants as mode
use Rattle.two_phase.specs.declared.standing.Recorded.{Recorded}
use Rattle.two_phase.specs.declared.standing.Recorded.TheVariants as recorded
use Rattle.two_phase.specs.declared.standing.Standing.{Standing}
use Rattle.two_phase.specs.declared.standing.Standing.TheVariants as standing
use Rattle.two_phase.specs.Spent.{IsSpentAt}
use Rattle.two_phase.specs.Inner.Grounds.{GroundStands, GroundStops, HasCause, KeepsFactors, OnFactors, WantsTable, ground_state}
use Rattle.two_phase.specs.Modes.{mode_of}
use Rattle.two_phase.specs.Standing.{standing_of}

-- ── what is seen of a board ──

-- the run has come so far at the state of number k that is stood on
abbrev pub HasCome : Instance → ℕ → ℕ → Ground → Course → Type 0
HasCome inst budget k g course.Running = Unit {0}
HasCome inst budget k g (course.Ended end) = GroundStops inst g end
HasCome inst budget k g course.Spent = IsSpentAt inst budget k (ground_state g)

-- these are the updates that the factors have had, and the number at which they were made
abbrev pub AreCounts : ℕ → ℕ → State → Factors → Type 0
AreCounts updates epoch s f = (f.updates ≡ updates) × (f.base ≡ epoch)

-- the standing is that of the state s of number k: at an end it has the end's equations
abbrev pub IsStandingOf : Instance → ℕ → ℕ → State → Standing → Type 0
IsStandingOf inst budget k s standing.Running = Unit {0}
IsStandingOf inst budget k s standing.Optimal = (y β : List ℚ) × EndsOptimal inst s y β
IsStandingOf inst budget k s standing.Infeasible = (y β : List ℚ) × EndsInfeasible inst s y β
IsStandingOf inst budget k s standing.Unbounded = (y β α : List ℚ) × (q : ℕ) × EndsFree inst s y β α q
IsStandingOf inst budget k s standing.Spent = IsSpentAt inst budget k s

abbrev pub state_of : {A : Type 0} → Board A → State
state_of b = ground_state b.ground

abbrev pub number_of : {A : Type 0} → Board A → ℕ
number_of b = length b.log

abbrev pub standing_on : {A : Type 0} → Board A → Standing
standing_on b = standing_of b.course

-- ── what stands on a board at the width w, between any two calls ──

pub record BoardStands {A : Type 0} (w : ℕ) (b : Board A) : Type 0 where
  pub well_formed : IsWellFormed b.inst.value
  pub fits : StartFits w b.inst.value
  -- the log leads to the state that is stood on, within the budget
  pub stands : GroundStands w b.inst.value b.log b.ground
  pub within : moves b.log ≤ b.budget
  pub come : HasCome b.inst.value b.budget (length b.log) b.ground b.course
  pub counts : OnFactors b.ground (AreCounts b.updates b.epoch)
  pub early : b.epoch ≤ length b.log

-- the factors are of the state's basis, with at most 64 updates on a factorisation of a number not above the board's
abbrev pub HasFactors : {A : Type 0} → Board A → Type 0
HasFactors b = OnFactors b.ground (λ s f. AreFactors (row_count b.inst.value) f (basis_entry b.inst.value s) × (f.updates ≤ most_updates) × (f.base ≤ length b.log))

-- the factors are those that are built along the log
abbrev pub AreBuilt : {A : Type 0} → ℕ → Board A → Type 0
AreBuilt w b = OnFactors b.ground (λ s f. settle w (built b.inst.value b.log) ≡ Some (Some f))

-- no value that is worked at the state is a cause to give the factors up
abbrev pub HasNoCause : {A : Type 0} → ℕ → Board A → Type 0
HasNoCause w b = HasCause w b.inst.value b.log b.ground → ⊥

-- ── what a call leaves ──

pub record IsSameRun {A : Type 0} (old new : Board A) : Type 0 where
  pub instance : new.inst ≡ old.inst
  pub budget : new.budget ≡ old.budget
  -- mode Plain stays
  pub plain_stays : mode_of old.ground ≡ mode.Plain → mode_of new.ground ≡ mode.Plain

-- log, state, standing, counts and, while there are some, the factors are as they were
pub record IsUnmoved {A : Type 0} (old new : Board A) : Type 0 where
  pub log : new.log ≡ old.log
  pub state : state_of new ≡ state_of old
  pub course : new.course ≡ old.course
  pub epoch : new.epoch ≡ old.epoch
  pub updates : new.updates ≡ old.updates
  pub factors : KeepsFactors old.ground new.ground

-- the factors are given up for a cause alone, a value that is worked with them and does not fit
abbrev pub HasGivenUp : {A : Type 0} → ℕ → Board A → Board A → Type 0
HasGivenUp w old new = mode_of new.ground ≡ mode.Plain → HasCause w old.inst.value old.log old.ground

-- they are given up for such a cause, or for an unfit choice of the board's own number
abbrev pub HasGivenUpFor : {A : Type 0} → ℕ → Board A → Board A → Choice → Type 0
HasGivenUpFor w old new choice = mode_of new.ground ≡ mode.Plain → HasCause w old.inst.value old.log old.ground ⊎ ((choice.unfit ≡ true) × (choice.number ≡ length old.log))

-- the choice is exact for a state of the instance's run, of a number not above k
abbrev pub IsChoiceFor : ℕ → Instance → ℕ → Choice → Type 0
IsChoiceFor w inst k choice = (choice.number ≤ k) × (s : State) × IsAt inst choice.number s × IsExactChoice w inst s choice

-- how the counts of the factors follow an entry: after 64 updates a swap makes them anew at the new number
abbrev pub FollowsSwap : {A : Type 0} → Board A → Board A → Type 0
FollowsSwap old new =
    (new.epoch ≡ (if old.updates == most_updates then length new.log else old.epoch)) × (new.updates ≡ (if old.updates == most_updates then 0 else old.updates + 1))

abbrev pub KeepsCounts : {A : Type 0} → Board A → Board A → Type 0
KeepsCounts old new = (new.epoch ≡ old.epoch) × (new.updates ≡ old.updates)

abbrev pub FollowsEntry : {A : Type 0} → Board A → Board A → Entry → Type 0
FollowsEntry old new (Flip q) = KeepsCounts old new
FollowsEntry old new (Swap q p end) = (mode_of new.ground ≡ mode.Factors → FollowsSwap old new) × (mode_of new.ground ≡ mode.Plain → KeepsCounts old new)
FollowsEntry old new Turn = KeepsCounts old new

-- what a record comes to; over factors an unfit choice is a rescue
abbrev pub Records : {A : Type 0} → Board A → Board A → Choice → Recorded → Type 0
Records old new choice (recorded.Entry e) = IsNext old.inst.value (state_of old) e × (new.log ≡ old.log ++ e ∷ []) × (standing_on new ≡ standing.Running) × FollowsEntry old new e × (choice.unfit ≡ true → mode_of old.ground ≡ mode.Plain)
Records old new choice recorded.Rescued = (choice.unfit ≡ true) × (mode_of old.ground ≡ mode.Factors) × (mode_of new.ground ≡ mode.Plain) × IsUnmoved old new
Records old new choice (recorded.Ended s) = (s ≢ standing.Running) × (standing_on new ≡ s) × (new.log ≡ old.log) × KeepsCounts old new × (choice.unfit ≡ true → mode_of old.ground ≡ mode.Plain)

-- the run has ended, within the budget
abbrev pub HasEnded : {A : Type 0} → Board A → Type 0
HasEnded b = (standing_on b ≢ standing.Running) × (standing_on b ≢ standing.Spent)

-- ── why a call is refused ──

-- an overflow has the place of the first value up to the board's number that does not fit, and the count of unfit results has risen
abbrev pub IsFirstOf : {A : Type 0} → ℕ → Board A → ℕ → ℕ → Place → Type 0
IsFirstOf w b before after here = ((s : State) × IsRun b.inst.value b.log s × IsFirstUnfit w b.inst.value b.log s here) × (raised before 1 ≤ after)

-- a basic value of the start does not fit the width
abbrev pub StartsUnfit : ℕ → Instance → Type 0
StartsUnfit w inst = (β : List ℚ) × (p : ℕ) × Values inst (start_of inst) β × (p < row_count inst) × (fits_width w (at β p) ≡ false)

-- no board is made: an overflow comes for a basic value of the start, and has the place of the first value of the plain table's making that does not fit
abbrev pub IsStartCause : ℕ → Instance → ℕ → ℕ → BoardFault → Type 0
IsStartCause w inst before after fault.Memory = Unit {0}
IsStartCause w inst before after (fault.Overflow here) = ((s : State) × IsRun inst [] s × IsFirstUnfit w inst [] s here) × (raised before 1 ≤ after) × StartsUnfit w inst
IsStartCause w inst before after (fault.Stale n) = ⊥
IsStartCause w inst before after (fault.Ended s) = ⊥

abbrev pub IsTicketCause : {A : Type 0} → ℕ → Board A → ℕ → ℕ → BoardFault → Type 0
IsTicketCause w b before after fault.Memory = Unit {0}
IsTicketCause w b before after (fault.Overflow here) = IsFirstOf w b before after here × WantsTable w b.inst.value b.ground
IsTicketCause w b before after (fault.Stale n) = ⊥
IsTicketCause w b before after (fault.Ended s) = (s ≡ standing_on b) × (s ≢ standing.Running)

abbrev pub IsRecordCause : {A : Type 0} → ℕ → Board A → Choice → ℕ → ℕ → BoardFault → Type 0
IsRecordCause w b choice before after fault.Memory = Unit {0}
IsRecordCause w b choice before after (fault.Overflow here) = IsFirstOf w b before after here × (choice.unfit ≡ false → HasCause w b.inst.value b.log b.ground)
IsRecordCause w b choice before after (fault.Stale n) = (standing_on b ≡ standing.Running) × (n ≡ length b.log) × (choice.number < n)
IsRecordCause w b choice before after (fault.Ended s) = (s ≡ standing_on b) × (s ≢ standing.Running)

-- at the close it is the first sum of the objective
abbrev pub IsClosingCause : {A : Type 0} → ℕ → Board A → ℕ → ℕ → BoardFault → Type 0
IsClosingCause w b before after fault.Memory = Unit {0}
IsClosingCause w b before after (fault.Overflow here) = IsFirstTotal w b.inst.value b.log (state_of b) here × (raised before 1 ≤ after)
IsClosingCause w b before after (fault.Stale n) = ⊥
IsClosingCause w b before after (fault.Ended s) = ⊥
