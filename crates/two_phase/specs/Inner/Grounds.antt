-- What a run stands on: factors of its state's basis, or, where they are given up, what it goes on over then.
use Rattle.std.specs.Prelude.{◌≡◌, ℕ, ◌≤◌, List, [], ◌∷◌, ◌++◌, length, Bool, true, Option, Some, None}
use Rattle.rational.specs.Worked.{settle}
use Rattle.lp_model.specs.declared.Entry.{Entry}
use Rattle.lp_model.specs.Log.{moves}
use Rattle.lp_run.specs.Instance.{Instance}
use Rattle.lp_run.specs.State.{State, start_of}
use Rattle.lp_run.specs.Step.{IsNext}
use Rattle.bland_ratio.specs.Pricing.{IsExactTicket}
use Rattle.bland_ratio.specs.declared.tickets.Ticket.{Ticket}
use Rattle.factor_model.specs.Factors.{Factors}
use Rattle.factor_run.specs.Built.{made_anew}
use Rattle.factor_run.specs.Causes.{Cause}
use Rattle.two_phase.specs.declared.ground.Ground.{Ground}
use Rattle.two_phase.specs.declared.ground.Ground.TheVariants as ground
use Rattle.two_phase.specs.declared.reached.Reached.{Reached}
use Rattle.two_phase.specs.declared.reached.Reached.TheVariants as reached
use Rattle.run_outcome.specs.declared.stop.Stop.{Stop}
use Rattle.two_phase.specs.Modes.{IsPaidBy, mode_of}
use Rattle.two_phase.specs.Spent.{IsSpentAt}
use Rattle.two_phase.specs.Inner.Fallbacks.{FallbackStands, FallbackStops, fallback_state}
use Rattle.two_phase.specs.Inner.Iterates.{HasUnfitPrices, IsIterate}
use Rattle.two_phase.specs.Inner.Reaching.{GoesWith, StopsAt}

abbrev pub ground_state : Ground → State
ground_state (ground.Factors it) = it.state
ground_state (ground.Plain p) = fallback_state p

-- it stands at the state that the log reaches
abbrev pub GroundStands : ℕ → Instance → List Entry → Ground → Type 0
GroundStands w inst log (ground.Factors it) = IsIterate w inst log it
GroundStands w inst log (ground.Plain p) = FallbackStands w inst log p

abbrev pub IsPlain : Ground → Type 0
IsPlain (ground.Factors it) = ⊥
IsPlain (ground.Plain p) = Unit {0}

-- the run ends so at its state
abbrev pub GroundStops : Instance → Ground → Stop → Type 0
GroundStops inst (ground.Factors it) end = StopsAt inst it end
GroundStops inst (ground.Plain p) end = FallbackStops inst p end

-- a step from the state s of a log leads to where the log has the next entry, or it is still at the log
abbrev pub GroundReaches : ℕ → Instance → ℕ → List Entry → State → List Entry → Ground → Reached → Type 0
GroundReaches w inst budget log s log' new (reached.Entry e) = IsNext inst s e × (log' ≡ log ++ e ∷ []) × GroundStands w inst log' new × (moves log' ≤ budget)
GroundReaches w inst budget log s log' new (reached.End end) = (log' ≡ log) × GroundStands w inst log' new × GroundStops inst new end
GroundReaches w inst budget log s log' new reached.Spent = (log' ≡ log) × GroundStands w inst log' new × IsSpentAt inst budget (length log) s

-- what holds of the factors, where they are stood on
abbrev pub OnFactors : Ground → (State → Factors → Type 0) → Type 0
OnFactors (ground.Factors it) P = P it.state it.factors
OnFactors (ground.Plain p) P = Unit {0}

-- where there are factors before and after, they are the same
abbrev pub KeepsFactors : Ground → Ground → Type 0
KeepsFactors old new = OnFactors new (λ s f. OnFactors old (λ before g. f ≡ g))

-- where there are factors before and after, they go with what a step from the number k comes to
abbrev pub FactorsGo : ℕ → Instance → ℕ → Ground → Ground → Reached → Type 0
FactorsGo w inst k old new r = OnFactors new (λ s' g. OnFactors old (λ s f. GoesWith w inst k s f g r))

-- where there are factors, they are made for the basis of the start
abbrev pub BeginsBuilt : ℕ → Instance → Ground → Type 0
BeginsBuilt w inst g = OnFactors g (λ s f. settle w (made_anew inst (start_of inst) 0) ≡ Some (Some f))

-- nothing has changed but prices that were worked and the room: it stands at the log, in the same state and mode, with the same factors
pub record IsStill (w : ℕ) (inst : Instance) (log : List Entry) (old new : Ground) : Type 0 where
  pub stands : GroundStands w inst log new
  pub state : ground_state new ≡ ground_state old
  pub mode : mode_of new ≡ mode_of old
  pub factors : KeepsFactors old new

-- a ticket has reduced costs: the factors are given up, or the prices are yet to be worked, and do not fit
abbrev pub WantsTable : ℕ → Instance → Ground → Type 0
WantsTable w inst (ground.Factors it) = HasUnfitPrices w inst it
WantsTable w inst (ground.Plain p) = Unit {0}

-- the ticket is of the log's number and exact for the state that is stood on, with prices or reduced costs by what is stood on
pub record Asks (inst : Instance) (log : List Entry) (g : Ground) (ticket : Ticket) : Type 0 where
  pub exact : IsExactTicket inst (ground_state g) ticket
  pub number : ticket.number ≡ length log
  pub paid : IsPaidBy (mode_of g) ticket.pay

-- where an unfit choice leads to no step, the factors are given up for it; to a step it leads where they were given up before
abbrev pub GroundRescues : Bool → ℕ → Instance → List Entry → Ground → List Entry → Ground → Option Reached → Type 0
GroundRescues unfit w inst log old log' new None = (unfit ≡ true) × (IsPlain old → ⊥) × IsPlain new × (log' ≡ log) × GroundStands w inst log new
GroundRescues unfit w inst log old log' new (Some reached) = unfit ≡ true → IsPlain old

-- a value that is worked with its factors does not fit; factors that are given up have no such cause
abbrev pub HasCause : ℕ → Instance → List Entry → Ground → Type 0
HasCause w inst log (ground.Factors it) = Cause w inst (length log) it.state it.factors
HasCause w inst log (ground.Plain p) = Unit {0}

-- the factors are given up for a cause alone
abbrev pub GivesUp : ℕ → Instance → List Entry → Ground → Ground → Type 0
GivesUp w inst log old new = IsPlain new → HasCause w inst log old
