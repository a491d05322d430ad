-- A run to its end: it is short, and what is asked at each state is exact.
use Rattle.std.proofs.Common.{◌≡◌, ℕ, ◌+◌, ◌-◌, ◌*◌, ◌<◌, ◌≤◌, List, [], ◌∷◌, ◌++◌, Bool, true, false, Option, Some, None, length, length-append, refl, ◌∙◌, ap, subst, arith}
use Rattle.std.specs.Option.{option_map}
use Rattle.lp_model.specs.declared.Entry.{Entry}
use Rattle.lp_model.specs.declared.Phase.{Phase}
use Rattle.lp_run.specs.Instance.{Instance, IsWellFormed, column_count}
use Rattle.bland_laws.specs.Ends.{run_bound}
use Rattle.bland_laws.proofs.Always.{instance_holds}
use Rattle.bland_laws.proofs.Runs.{ends}
use Rattle.bland_ratio.specs.Pricing.{HasUnfitCost, IsChoiceOf, IsExactPay, IsExactTicket, IsFirstStopper, IsTicketOf, PaysEach}
use Rattle.bland_ratio.specs.declared.tickets.Choice.{Choice}
use Rattle.bland_ratio.specs.declared.tickets.Pay.{Pay}
use Rattle.bland_ratio.specs.declared.tickets.Pay.TheVariants as pay
use Rattle.bland_ratio.specs.declared.tickets.Ticket.{Ticket}
use Rattle.two_phase.specs.declared.ground.Ground.{Ground}
use Rattle.two_phase.specs.declared.ground.Ground.TheVariants as ground
use Rattle.two_phase.specs.declared.standing.Mode.TheVariants as mode
use Rattle.two_phase.specs.Modes.{IsPaidBy}
use Rattle.two_phase.specs.Inner.Grounds.{GroundStands, IsPlain, ground_state}
use Rattle.two_phase.proofs.Grounds.{reached_by}

-- an exact ticket has a status for each column, and a price for each row or a reduced cost for each column
pub exact_ticket : (w : ℕ) (inst : Instance) → IsWellFormed inst → (log : List Entry) (g : Ground) → GroundStands w inst log g → (ticket : Ticket) → IsExactTicket inst (ground_state g) ticket
    → IsTicketOf inst ticket
exact_ticket w inst well_formed log g h ticket exact = record {
  statuses = ap (λ st. length st) exact.statuses ∙ (instance_holds inst well_formed log (ground_state g) (reached_by w inst log g h)).each;
  pays = by ticket.pay exact.exact;
}
  where
    by : (p : Pay) → IsExactPay inst (ground_state g) p → PaysEach inst p
    by (pay.Prices y) prices = prices.one_each
    by (pay.Costs d) costs = costs.0

-- a choice by reduced costs is never unfit
pub costs_fit : (w : ℕ) (inst : Instance) (ticket : Ticket) (choice : Choice) → IsPaidBy mode.Plain ticket.pay → IsChoiceOf w inst ticket choice → choice.unfit ≡ false
costs_fit w inst ticket choice paid h = by choice.stopper refl choice.unfit refl
  where
    never : (p : Pay) → IsPaidBy mode.Plain p → (phase : Phase) (j : ℕ) → HasUnfitCost w inst phase p j → ⊥
    never (pay.Prices y) paid phase j unfit = paid
    never (pay.Costs d) paid phase j unfit = unfit

    by : (o : Option ℕ) → choice.stopper ≡ o → (b : Bool) → choice.unfit ≡ b → choice.unfit ≡ false
    by o e false is = is
    by None e true is = h.none_fits e
    by (Some j) e true is =
        let first = subst (λ b. IsFirstStopper w inst ticket 0 (column_count inst) (Some (j, b))) is
        (subst (λ o. IsFirstStopper w inst ticket 0 (column_count inst) (option_map (λ j. (j, choice.unfit)) o)) e h.stopper) in
        absurd (never ticket.pay paid ticket.phase j first.2.1)

-- 1 while there are factors to give up
abbrev pub left : Ground → ℕ
left (ground.Factors it) = 1
left (ground.Plain p) = 0

left_most : (g : Ground) → left g ≤ 1
left_most (ground.Factors it) = omega arith
left_most (ground.Plain p) = omega arith

short : (w : ℕ) (inst : Instance) → IsWellFormed inst → (log : List Entry) (g : Ground) → GroundStands w inst log g → length log < run_bound inst
short w inst well_formed log g h = (ends inst well_formed).short log (ground_state g) (reached_by w inst log g h)

-- with each entry the run comes nearer to its end
pub nearer : (w : ℕ) (inst : Instance) → IsWellFormed inst → (log log' : List Entry) (e : Entry) (g g' : Ground) → log' ≡ log ++ e ∷ [] → GroundStands w inst log' g'
    → 2 * (run_bound inst - length log') + left g' < 2 * (run_bound inst - length log) + left g
nearer w inst well_formed log log' e g g' is h =
    let more : length log' ≡ length log + 1 = ap length is ∙ length-append log (e ∷ []) in
    let under = short w inst well_formed log' g' h in
    let most = left_most g' in
    omega arith

-- and where factors are given up, they are given up for good
pub given : (bound : ℕ) (log log' : List Entry) (g g' : Ground) → log' ≡ log → (IsPlain g → ⊥) → IsPlain g' → 2 * (bound - length log') + left g' < 2 * (bound - length log) + left g
given bound log log' (ground.Factors it) (ground.Plain p) is was now = omega (arith, ap length is)
given bound log log' (ground.Factors it) (ground.Factors it') is was now = absurd now
given bound log log' (ground.Plain p) g' is was now = absurd (was tt)
