-- What a board's answers say of its run at a number, where of the board the lineage alone is known.
use Rattle.std.specs.Prelude.{◌≡◌, ◌≢◌, ℕ, ◌+◌, ◌<◌, ◌≤◌, List, [], ◌∷◌, length, true, Result, Ok, Err}
use Rattle.lp_model.specs.declared.Entry.{Entry}
use Rattle.lp_model.specs.declared.Place.{Place}
use Rattle.lp_run.specs.Instance.{Instance}
use Rattle.lp_run.specs.Listing.{IsFirstUnfit}
use Rattle.lp_run.specs.Run.{IsAt, IsRun, Leads}
use Rattle.lp_run.specs.State.{State}
use Rattle.lp_run.specs.Step.{IsNext}
use Rattle.bland_ratio.specs.Pricing.{IsExactTicket}
use Rattle.bland_ratio.specs.declared.tickets.Choice.{Choice}
use Rattle.bland_ratio.specs.declared.tickets.Ticket.{Ticket}
use Rattle.two_phase.specs.Board.{IsStandingOf}
use Rattle.two_phase.specs.declared.draft.Draft.{Draft}
use Rattle.two_phase.specs.declared.draft.Snapshot.{Snapshot}
use Rattle.two_phase.specs.declared.standing.BoardFault.{BoardFault}
use Rattle.two_phase.specs.declared.standing.BoardFault.TheVariants as fault
use Rattle.two_phase.specs.declared.standing.Recorded.{Recorded}
use Rattle.two_phase.specs.declared.standing.Recorded.TheVariants as recorded
use Rattle.two_phase.specs.declared.standing.Standing.{Standing}
use Rattle.two_phase.specs.declared.standing.Standing.TheVariants as standing
use Rattle.two_phase.specs.declared.switch.SwapFault.{SwapFault}
use Rattle.two_phase.specs.declared.switch.SwapFault.TheVariants as swap
use Rattle.switch_desk.specs.declared.lineage.Lineage.{Lineage}
use Rattle.switch_desk.specs.declared.glimpse.Glimpse.{Glimpse}

-- the ticket is exact for the run's state of number t
abbrev pub IsTicketAt : Instance → ℕ → Ticket → Type 0
IsTicketAt inst t ticket = (ticket.number ≡ t) × (s : State) × IsAt inst t s × IsExactTicket inst s ticket

-- the snapshot is of the run's state of number t
abbrev pub IsSnapshotAt : Instance → ℕ → Snapshot → Type 0
IsSnapshotAt inst t snapshot = (snapshot.number ≡ t) × IsAt inst t snapshot.state

-- the run's entries from number k up to below t
abbrev pub AreEntriesFrom : Instance → ℕ → ℕ → List Entry → Type 0
AreEntriesFrom inst k t log = (u v : State) × IsAt inst k u × Leads inst u log v × (k + length log ≡ t)

-- the standing is that of the run's state of number t
abbrev pub StandsSo : Lineage → ℕ → Standing → Type 0
StandsSo l t s = (at : State) × IsAt l.inst t at × IsStandingOf l.inst l.budget t at s

-- the run does not go on from number t, and this is its standing there
abbrev pub HasStopped : Lineage → ℕ → Standing → Type 0
HasStopped l t s = (s ≢ standing.Running) × StandsSo l t s

-- the place is that of the first value up to number t that does not fit the width
abbrev pub IsOverflowAt : Lineage → ℕ → Place → Type 0
IsOverflowAt l t here = (log : List Entry) × (s : State) × IsRun l.inst log s × (length log ≡ t) × IsFirstUnfit l.width l.inst log s here

-- what is glimpsed of a board of number t
pub record IsGlimpseAt (l : Lineage) (t : ℕ) (glimpse : Glimpse) : Type 0 where
  pub number : glimpse.number ≡ t
  pub stands : StandsSo l t glimpse.standing
  pub early : glimpse.epoch ≤ t

-- why a ticket is refused
abbrev pub IsTicketRefusal : Lineage → ℕ → BoardFault → Type 0
IsTicketRefusal l t fault.Memory = Unit {0}
IsTicketRefusal l t (fault.Overflow here) = IsOverflowAt l t here
IsTicketRefusal l t (fault.Stale n) = ⊥
IsTicketRefusal l t (fault.Ended s) = HasStopped l t s

-- why the record of a choice is refused
abbrev pub IsRecordRefusal : Lineage → ℕ → Choice → BoardFault → Type 0
IsRecordRefusal l t choice fault.Memory = Unit {0}
IsRecordRefusal l t choice (fault.Overflow here) = IsOverflowAt l t here
IsRecordRefusal l t choice (fault.Stale n) = (n ≡ t) × (choice.number < t)
IsRecordRefusal l t choice (fault.Ended s) = HasStopped l t s

-- what the record of a choice comes to on a board that it leaves at number t
abbrev pub IsRecordedAt : Lineage → ℕ → Choice → Recorded → Type 0
IsRecordedAt l t choice (recorded.Entry e) = (s : State) × IsAt l.inst choice.number s × IsNext l.inst s e × (t ≡ choice.number + 1)
IsRecordedAt l t choice recorded.Rescued = (choice.unfit ≡ true) × (choice.number ≡ t)
IsRecordedAt l t choice (recorded.Ended s) = HasStopped l t s

-- the numbers that a record adds: an entry alone adds one, the choice's
abbrev pub added : Result Recorded BoardFault → ℕ → List ℕ
added (Ok (recorded.Entry e)) c = c ∷ []
added (Ok recorded.Rescued) c = []
added (Ok (recorded.Ended s)) c = []
added (Err fault) c = []

-- what a board of number t answers to a draft, which comes back with a refusal
abbrev pub IsSwapAnswer : ℕ → Draft → Result (Unit {0}) SwapFault → Type 0
IsSwapAnswer t draft (Ok done) = draft.number ≡ t
IsSwapAnswer t draft (Err (swap.Plain d)) = d ≡ draft
IsSwapAnswer t draft (Err (swap.Older d e)) = (d ≡ draft) × (draft.base ≤ e) × (e ≤ t)
IsSwapAnswer t draft (Err (swap.Behind d n)) = (d ≡ draft) × (n ≡ t) × (draft.number < t)
