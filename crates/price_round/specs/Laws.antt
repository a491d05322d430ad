-- Laws of rounds, as facts.
use Rattle.std.specs.Prelude.{◌≡◌, ℕ, ◌+◌, ◌^◌, ◌<◌}
use Rattle.counting.specs.Counting.{one_if}
use Rattle.lp_run.specs.Instance.{Instance, column_count}
use Rattle.bland_ratio.specs.declared.tickets.Choice.{Choice}
use Rattle.bland_ratio.specs.declared.tickets.Ticket.{Ticket}
use Rattle.bland_ratio.specs.Pricing.{IsChoiceOf}
use Rattle.price_round.specs.declared.view.Plan.{Plan}
use Rattle.price_round.specs.Rounds.{IsLeast, IsState}

-- where one chunk more is claimed, it is the next one, and one more is given away
abbrev pub NextIsGiven : Type 0
NextIsGiven =
    (plan : Plan) (held done held' done' : ℕ → ℕ) (nones nones' given given' code code' chunk : ℕ)
    → IsState plan held done nones given code → IsState plan held' done' nones' given' code'
    → ((x : ℕ) → held' x + done' x ≡ held x + done x + one_if x chunk) → (chunk ≡ given) × (given' ≡ given + 1)

-- the least code is a function of the chunks that were offered
abbrev pub LeastIsOne : Type 0
LeastIsOne =
    (plan : Plan) (done done' : ℕ → ℕ) (code code' : ℕ) → column_count plan.inst.value < 2 ^ 32 → ((x : ℕ) → done x ≡ done' x)
    → IsLeast plan done code → IsLeast plan done' code' → code ≡ code'

-- a ticket has one choice at a width
abbrev pub ChoiceIsOne : Type 0
ChoiceIsOne = (w : ℕ) (inst : Instance) (ticket : Ticket) (a b : Choice) → IsChoiceOf w inst ticket a → IsChoiceOf w inst ticket b → a ≡ b
