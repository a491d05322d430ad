-- What a ticket asks of the columns, and what a choice answers (Bland 1977).
use Rattle.std.specs.Prelude.{◌≡◌, ◌≢◌, ℕ, ◌<◌, ◌≤◌, List, [], ◌∷◌, length, get_or, Option, Some, None, Bool, true, false, IsFalse, MatchOption, if◌then◌else◌}
use Rattle.std.specs.Option.{option_map}
use Rattle.lp_model.specs.declared.Phase.{Phase}
use Rattle.lp_model.specs.declared.Status.{Status}
use Rattle.lp_model.specs.declared.Status.TheVariants as status
use Rattle.rational.specs.Rational.{ℚ, one_ℚ}
use Rattle.rational.specs.Lines.{gather}
use Rattle.rational.specs.Sum.{at}
use Rattle.rational.specs.Worked.{Worked, settle}
use Rattle.exact_frac.specs.Count.{raised}
use Rattle.lp_run.specs.declared.ColumnKind.{ColumnKind}
use Rattle.lp_run.specs.declared.ColumnKind.TheVariants as column
use Rattle.lp_run.specs.Instance.{Instance, bounds, column_count, column_kind, cost, passed_side, row_count, sign_past, structural}
use Rattle.lp_run.specs.Solution.{Prices, reduced}
use Rattle.lp_run.specs.State.{State}
use Rattle.lp_run.specs.Step.{Enters, Improves, NoneEligible, is_fixed}
use Rattle.bland_ratio.specs.declared.tickets.Choice.{Choice}
use Rattle.bland_ratio.specs.declared.tickets.Pay.{Pay}
use Rattle.bland_ratio.specs.declared.tickets.Pay.TheVariants as pay
use Rattle.bland_ratio.specs.declared.tickets.Ticket.{Ticket}

-- there is a price for each row, or a reduced cost for each column
abbrev pub PaysEach : Instance → Pay → Type 0
PaysEach inst (pay.Prices y) = length y ≡ row_count inst
PaysEach inst (pay.Costs d) = length d ≡ column_count inst

-- the ticket has a status for each column of the instance, and a price for each row or a reduced cost for each column
pub record IsTicketOf (inst : Instance) (ticket : Ticket) : Type 0 where
  pub statuses : length ticket.status ≡ column_count inst
  pub pays : PaysEach inst ticket.pay

-- ── the reduced cost of a column ──

-- the entries of a column by rising rows; a logical and an artificial have one
abbrev pub kind_entries : Instance → ColumnKind → List (ℕ × ℚ)
kind_entries inst (column.Structural k) = (structural inst k).entries
kind_entries inst (column.Logical i) = (i, one_ℚ) ∷ []
kind_entries inst (column.Artificial i) = (i, sign_past (passed_side inst i)) ∷ []

-- the reduced cost of column j at the prices y, as it is worked: its cost less the product of each entry with the price of its row, by rising rows
abbrev pub priced : Instance → Phase → List ℚ → ℕ → Worked ℚ
priced inst phase y j = gather (row_count inst) y (cost inst phase j) (kind_entries inst (column_kind inst j))

-- the reduced cost of column j is d: worked from the prices at the width w, or the ticket's own
abbrev pub HasCost : ℕ → Instance → Phase → Pay → ℕ → ℚ → Type 0
HasCost w inst phase (pay.Prices y) j d = settle w (priced inst phase y j) ≡ Some d
HasCost w inst phase (pay.Costs costs) j d = at costs j ≡ d

-- a value that is worked for the reduced cost of column j does not fit the width w
abbrev pub HasUnfitCost : ℕ → Instance → Phase → Pay → ℕ → Type 0
HasUnfitCost w inst phase (pay.Prices y) j = settle w (priced inst phase y j) ≡ None
HasUnfitCost w inst phase (pay.Costs costs) j = ⊥

-- ── stoppers ──

abbrev pub status_at : Ticket → ℕ → Status
status_at ticket j = get_or ticket.status j status.Lower

-- a column is looked at where its two ends differ and it is not basic
abbrev pub IsLookedAt : Instance → Ticket → ℕ → Type 0
IsLookedAt inst ticket j = IsFalse (is_fixed (bounds inst ticket.phase j)) × (status_at ticket j ≢ status.Basic)

-- column j may enter at the reduced cost d
abbrev pub IsEligibleAt : Instance → Ticket → ℕ → ℚ → Type 0
IsEligibleAt inst ticket j d = IsFalse (is_fixed (bounds inst ticket.phase j)) × Improves (status_at ticket j) d

-- column j is a stopper: one that may enter, or an unfit one, which is looked at and whose reduced cost does not fit
abbrev pub Stops : ℕ → Instance → Ticket → ℕ → Bool → Type 0
Stops w inst ticket j false = (d : ℚ) × HasCost w inst ticket.phase ticket.pay j d × IsEligibleAt inst ticket j d
Stops w inst ticket j true = IsLookedAt inst ticket j × HasUnfitCost w inst ticket.phase ticket.pay j

-- no column from `from` on and below `to` is a stopper
abbrev pub NoneStops : ℕ → Instance → Ticket → ℕ → ℕ → Type 0
NoneStops w inst ticket from to = (j : ℕ) → from ≤ j → j < to → (unfit : Bool) → Stops w inst ticket j unfit → ⊥

-- the least stopper of these columns and whether it is unfit, where there is one
abbrev pub IsFirstStopper : ℕ → Instance → Ticket → ℕ → ℕ → Option (ℕ × Bool) → Type 0
IsFirstStopper w inst ticket from to None = NoneStops w inst ticket from to
IsFirstStopper w inst ticket from to (Some (j, unfit)) = (from ≤ j) × (j < to) × Stops w inst ticket j unfit × NoneStops w inst ticket from j

-- the choice of a ticket at a width: the least stopper of all columns, under the ticket's number
pub record IsChoiceOf (w : ℕ) (inst : Instance) (ticket : Ticket) (choice : Choice) : Type 0 where
  pub number : choice.number ≡ ticket.number
  pub stopper : IsFirstStopper w inst ticket 0 (column_count inst) (option_map (λ j. (j, choice.unfit)) choice.stopper)
  pub none_fits : choice.stopper ≡ None → choice.unfit ≡ false

-- the count of unfit results after a search: raised by one exactly where it ends at an unfit column
abbrev pub unfit_where : ℕ → Bool → ℕ
unfit_where count unfit = if unfit then raised count 1 else count

abbrev pub is_unfit : Option (ℕ × Bool) → Bool
is_unfit None = false
is_unfit (Some stopper) = stopper.1

-- ── what is exact ──

-- the prices of the state, or the reduced costs of its columns
abbrev pub IsExactPay : Instance → State → Pay → Type 0
IsExactPay inst s (pay.Prices y) = Prices inst s y
IsExactPay inst s (pay.Costs d) = (length d ≡ column_count inst) × ((y : List ℚ) × Prices inst s y × ((j : ℕ) → j < column_count inst → at d j ≡ reduced inst s y j))

-- the phase, the statuses and the prices or reduced costs of the ticket are those of the state
pub record IsExactTicket (inst : Instance) (s : State) (ticket : Ticket) : Type 0 where
  pub phase : ticket.phase ≡ s.phase
  pub statuses : ticket.status ≡ s.statuses
  pub exact : IsExactPay inst s ticket.pay

-- the choice is that of an exact ticket
abbrev pub IsExactChoice : ℕ → Instance → State → Choice → Type 0
IsExactChoice w inst s choice = (ticket : Ticket) × IsExactTicket inst s ticket × IsChoiceOf w inst ticket choice

-- the column of the choice enters at the state, and where the choice has none, none is eligible
abbrev pub ChoiceEnters : Instance → State → Choice → Type 0
ChoiceEnters inst s choice = (y : List ℚ) × Prices inst s y × MatchOption choice.stopper (NoneEligible inst s y) (Enters inst s y)
