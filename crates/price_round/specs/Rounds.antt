-- What seats know of a round, the rule of its table, and what each kind of step changes.
use Rattle.std.specs.Prelude.{◌≡◌, ℕ, ◌+◌, ◌-◌, ◌*◌, ◌/◌, ◌^◌, ◌<◌, ◌≤◌, ◌⊎◌, ◌==◌, not, if◌then◌else◌, List, [], ◌∷◌, ◌++◌, Some, None, Bool, true, min, sum_by, filter}
use mathlib.Core.Option.{some}
use lib.ListN.{get_elem?}
use Rattle.atomic_table.specs.Table.{State, Me}
use Rattle.counting.specs.Counting.{times, once_below}
use Rattle.lp_run.specs.Instance.{Instance, column_count}
use Rattle.bland_ratio.specs.declared.tickets.Ticket.{Ticket}
use Rattle.bland_ratio.specs.Pricing.{Stops}
use Rattle.price_round.specs.declared.view.Plan.{Plan}
use Rattle.price_round.specs.declared.view.View.{View}

-- ── chunks and codes ──

-- chunk k has the columns 64k to 64k + 63, as far as there are columns
abbrev pub chunk_start : ℕ → ℕ
chunk_start k = 64 * k

abbrev pub chunk_end : Instance → ℕ → ℕ
chunk_end inst k = min (64 * k + 64) (column_count inst)

abbrev pub chunk_count : Instance → ℕ
chunk_count inst = (column_count inst + 63) / 64

-- stoppers are ordered by their codes as by their columns
abbrev pub code_of : ℕ → Bool → ℕ
code_of column unfit = 2 * column + (if unfit then 1 else 0)

-- no stopper was offered
abbrev pub no_code : ℕ
no_code = 2 ^ 64 - 1

-- column j is a stopper of the round
abbrev pub StopsAt : Plan → ℕ → Bool → Type 0
StopsAt plan j unfit = Stops plan.width plan.inst.value plan.ticket.value j unfit

-- no column of the ticket is an unfit stopper at the width
abbrev pub NoneUnfit : ℕ → Instance → Ticket → Type 0
NoneUnfit w inst ticket = (j : ℕ) → j < column_count inst → Stops w inst ticket j true → ⊥

-- no stopper of the chunk has a code below this one
abbrev pub NoneBelow : Plan → ℕ → ℕ → Type 0
NoneBelow plan chunk code =
    (j : ℕ) (unfit : Bool) → chunk_start chunk ≤ j → j < chunk_end plan.inst.value chunk → StopsAt plan j unfit → code ≤ code_of j unfit

-- the code is that of a stopper in this chunk
pub record IsCodeIn (plan : Plan) (chunk code : ℕ) : Type 0 where
  pub column : ℕ
  pub unfit : Bool
  pub from : chunk_start chunk ≤ column
  pub to : column < chunk_end plan.inst.value chunk
  pub stops : StopsAt plan column unfit
  pub code_is : code ≡ code_of column unfit

-- what is known of all chunks of a round, where `held` and `done` say how often a chunk is claimed and not offered, and how often it is offered:
-- the first `given` chunks are given away, once each, and the code is the least one of the stoppers in the chunks that were offered
pub record IsLeast (plan : Plan) (done : ℕ → ℕ) (code : ℕ) : Type 0 where
  pub offered : (code ≡ no_code) ⊎ ((chunk : ℕ) × (0 < done chunk) × IsCodeIn plan chunk code)
  pub least : (chunk : ℕ) → 0 < done chunk → NoneBelow plan chunk code

pub record IsState (plan : Plan) (held done : ℕ → ℕ) (nones given code : ℕ) : Type 0 where
  pub within : given ≤ chunk_count plan.inst.value
  pub full : 0 < nones → given ≡ chunk_count plan.inst.value
  pub once : (x : ℕ) → held x + done x ≡ once_below x given
  pub least : IsLeast plan done code

-- the code of a column, or none
abbrev pub IsCode : ℕ → Type 0
IsCode code = (code ≡ no_code) ⊎ ((column : ℕ) × (unfit : Bool) × (column < 2 ^ 32) × (code ≡ code_of column unfit))

-- the code is the least one of the stoppers among all columns
pub record IsLeastOfAll (plan : Plan) (code : ℕ) : Type 0 where
  pub stopper : (code ≡ no_code) ⊎ ((chunk : ℕ) × IsCodeIn plan chunk code)
  pub least : (j : ℕ) (unfit : Bool) → j < column_count plan.inst.value → StopsAt plan j unfit → code ≤ code_of j unfit

-- ── views ──

-- the list without x
abbrev pub without : ℕ → List ℕ → List ℕ
without x xs = filter (λ y. not (y == x)) xs

abbrev pub claimed : ℕ → View → View
claimed chunk v = record { parts = v.parts; nones = v.nones; held = chunk ∷ v.held; done = v.done; seen = v.seen; plan = v.plan }

abbrev pub refused : View → View
refused v = record { parts = v.parts; nones = v.nones + 1; held = v.held; done = v.done; seen = v.seen; plan = v.plan }

abbrev pub offered : ℕ → ℕ → View → View
offered chunk code v = record { parts = v.parts; nones = v.nones; held = without chunk v.held; done = chunk ∷ v.done; seen = min v.seen code; plan = v.plan }

abbrev pub glanced : ℕ → View → View
glanced code v = record { parts = v.parts; nones = v.nones; held = v.held; done = v.done; seen = code; plan = v.plan }

abbrev pub kept_part : View → View
kept_part v = record { parts = v.parts - 1; nones = v.nones; held = v.held; done = v.done; seen = v.seen; plan = v.plan }

abbrev pub fresh_part : View → View
fresh_part v = record { parts = 1; nones = 0; held = []; done = []; seen = no_code; plan = v.plan }

abbrev pub joined : View → View → View
joined v w =
    record { parts = v.parts + w.parts; nones = v.nones + w.nones; held = v.held ++ w.held; done = v.done ++ w.done; seen = min v.seen w.seen; plan = v.plan }

abbrev pub spent : View
spent = record { parts = 0; nones = 0; held = []; done = []; seen = no_code; plan = None }

-- all seats, and nothing done
abbrev pub first_view : Plan → View
first_view plan = record { parts = plan.seats; nones = 0; held = []; done = []; seen = no_code; plan = Some plan }

-- ── what a step tells its seat ──

module _ {S : Type 0} where
  -- the chunk found is given to the seat, above all that it has claimed; or none is left
  abbrev pub Claims : Me S View → ℕ → Me S View → Type 0
  Claims m found m' =
      (plan : Plan) → m.0.plan ≡ Some plan
      → (found < chunk_count plan.inst.value → (m' ≡ (claimed found m.0, m.1)) × ((x : ℕ) → 0 < times x m.0.held + times x m.0.done → x < found))
      × (chunk_count plan.inst.value ≤ found → m' ≡ (refused m.0, m.1))

  abbrev pub Offers : ℕ → ℕ → Me S View → Me S View → Type 0
  Offers chunk code m m' = m' ≡ (offered chunk code m.0, m.1)

  -- the least code is no higher than what the seat had seen, and a stopper's; a seat with all parts knows the whole state
  pub record Glances (m : Me S View) (found : ℕ) (m' : Me S View) : Type 0 where
    pub view : m' ≡ (glanced found m.0, m.1)
    pub lower : found ≤ m.0.seen
    pub code : (plan : Plan) → m.0.plan ≡ Some plan → (found ≡ no_code) ⊎ ((chunk : ℕ) × IsCodeIn plan chunk found)
    pub whole : (plan : Plan) → m.0.plan ≡ Some plan → m.0.parts ≡ plan.seats
        → (given : ℕ) × IsState plan (λ x. times x m.0.held) (λ x. times x m.0.done) m.0.nones given found

-- ── the rule ──

-- a view under the rule
pub record Fits (plan : Plan) (least : ℕ) (v : View) : Type 0 where
  pub ends : v.nones ≤ v.parts
  pub seen : least ≤ v.seen
  pub of_plan : 0 < v.parts → v.plan ≡ Some plan
  pub over : v.parts ≡ 0 → v ≡ spent

pub record Sound (plan : Plan) (claim least : ℕ) (views : List View) : Type 0 where
  pub given : ℕ
  pub few_seats : plan.seats < 2 ^ 32
  pub few_columns : column_count plan.inst.value < 2 ^ 32
  pub claim_is : claim ≡ given + sum_by (λ v. v.nones) views
  pub whole : sum_by (λ v. v.parts) views ≡ plan.seats
  pub state : IsState plan (λ x. sum_by (λ v. times x v.held) views) (λ x. sum_by (λ v. times x v.done) views) (sum_by (λ v. v.nones) views) given least
  pub each : (j : ℕ) (v : View) → get_elem? views j ≡ some v → Fits plan least v

-- the rule
pub record Kept {S : Type 0} (plan : Plan) (s : State S View) : Type 0 where
  pub claim : ℕ
  pub least : ℕ
  pub words : s.words ≡ claim ∷ least ∷ []
  pub sound : Sound plan claim least s.views
