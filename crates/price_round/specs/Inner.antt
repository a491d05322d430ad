-- Inner: that a fact of tickets is a proposition, and the words of the helpers' contracts.
use Rattle.std.proofs.Common.{◌≡◌, ℕ, ◌+◌, ◌<◌, ◌≤◌, ◌⊎◌}
use Rattle.std.proofs.Props.{props}
use Rattle.lp_run.specs.Instance.{Instance}
use Rattle.bland_ratio.specs.declared.tickets.Pay.{Pay}
use Rattle.bland_ratio.specs.declared.tickets.Pay.TheVariants as pay
use Rattle.bland_ratio.specs.declared.tickets.Ticket.{Ticket}
use Rattle.bland_ratio.specs.Pricing.{IsTicketOf, PaysEach}
use Rattle.counting.specs.Counting.{times}
use Rattle.price_round.specs.declared.view.View.{View}
use Rattle.price_round.specs.Rounds.{no_code}

pays-prop : (inst : Instance) (p : Pay) → IsProp (PaysEach inst p)
pays-prop inst (pay.Prices y) = hlevel props
pays-prop inst (pay.Costs d) = hlevel props

pub ticket-prop : (inst : Instance) (ticket : Ticket) → IsProp (IsTicketOf inst ticket)
ticket-prop inst ticket = hlevel (props, pays-prop)

-- the view v is cut into l and r
pub record IsCut (v l r : View) : Type 0 where
  pub parts : l.parts + r.parts ≡ v.parts
  pub left_part : 0 < l.parts
  pub right_part : 0 < r.parts
  pub nones : l.nones + r.nones ≡ v.nones
  pub left_ends : l.nones ≤ l.parts
  pub right_ends : r.nones ≤ r.parts
  pub held : (x : ℕ) → times x l.held + times x r.held ≡ times x v.held
  pub done : (x : ℕ) → times x l.done + times x r.done ≡ times x v.done
  pub left_seen : v.seen ≤ l.seen
  pub right_seen : (v.seen ≤ r.seen) ⊎ (r.seen ≡ no_code)
  pub left_plan : v.plan ≡ l.plan
  pub right_plan : v.plan ≡ r.plan
