-- The changes that one column, or one position, leaves.
use Rattle.std.specs.Prelude.{ℕ, ◌<◌, ◌≡◌, Option, Some, None, true, if◌then◌else◌}
use Rattle.std.specs.Option.{option_map}
use Rattle.std.specs.declared.cmp.Ordering.{Ordering}
use Rattle.std.specs.declared.cmp.Ordering.TheVariants.{Less, Equal, Greater}
use Rattle.lp_model.specs.declared.Sense.{Sense}
use Rattle.lp_model.specs.declared.Sense.TheVariants.{Max, Min}
use Rattle.lp_model.specs.declared.Status.{Status}
use Rattle.lp_model.specs.declared.Status.TheVariants as status
use Rattle.lp_model.specs.Deck.{Interval, Within, between}
use Rattle.rational.specs.Rational.{ℚ, zero_ℚ, ◌-ℚ◌, ◌/ℚ◌, neg_ℚ, cmp_ℚ, lt_ℚ}
use Rattle.lp_run.specs.Instance.{Instance, column_count}
use Rattle.lp_run.specs.State.{State, status_of}
use Rattle.ranging.specs.Listing.{is_looked_at}
use Rattle.ranging.specs.Ranges.{everything}

-- the numbers from v up, and those up to v
abbrev pub from : ℚ → Interval
from v = record { lower = Some v; upper = None }

abbrev pub up_to : ℚ → Interval
up_to v = record { lower = None; upper = Some v }

-- by how r compares with 0: the t for which d less t times r does not improve, where q is d over r and d does not improve
abbrev pub limit_by : Status → Ordering → ℚ → Interval
limit_by status.Basic o q = everything
limit_by status.Lower o q = elim o [ Less ↦ from q | Equal ↦ everything | Greater ↦ up_to q ]
limit_by status.Upper o q = elim o [ Less ↦ up_to q | Equal ↦ everything | Greater ↦ from q ]
limit_by status.Zero o q = elim o [ Less ↦ between q q | Equal ↦ everything | Greater ↦ between q q ]

-- a reduced cost d falls by t times r
abbrev pub cost_limit : Status → ℚ → ℚ → Interval
cost_limit st d r = limit_by st (cmp_ℚ r zero_ℚ) (d /ℚ r)

-- both ends of an interval less b, over g
abbrev pub end_over : Option ℚ → ℚ → ℚ → Option ℚ
end_over end b g = option_map (λ e. (e -ℚ b) /ℚ g) end

abbrev pub ends_over : Interval → ℚ → ℚ → Interval
ends_over i b g = record { lower = end_over i.lower b g; upper = end_over i.upper b g }

abbrev pub turned : Interval → Interval
turned i = record { lower = i.upper; upper = i.lower }

-- a value b within an interval rises by t times g
abbrev pub value_limit : Interval → ℚ → ℚ → Interval
value_limit i b g = elim (cmp_ℚ g zero_ℚ) [ Less ↦ turned (ends_over i b g) | Equal ↦ everything | Greater ↦ ends_over i b g ]

-- the greater of two lower ends, and the lesser of two upper ends
abbrev pub greater_end : Option ℚ → Option ℚ → Option ℚ
greater_end None b = b
greater_end (Some x) None = Some x
greater_end (Some x) (Some y) = if lt_ℚ x y then Some y else Some x

abbrev pub lesser_end : Option ℚ → Option ℚ → Option ℚ
lesser_end None b = b
lesser_end (Some x) None = Some x
lesser_end (Some x) (Some y) = if lt_ℚ y x then Some y else Some x

-- the numbers of two intervals in common
abbrev pub meet : Interval → Interval → Interval
meet a b = record { lower = greater_end a.lower b.lower; upper = lesser_end a.upper b.upper }

-- the numbers that the sense counts as those of the interval
abbrev pub counted : Sense → Interval → Interval
counted Min i = i
counted Max i = record { lower = option_map neg_ℚ i.upper; upper = option_map neg_ℚ i.lower }

-- a reduced cost d of each column that is looked at, which falls by u times r, does not come to improve
abbrev pub CostsHold : Instance → State → (ℕ → ℚ) → (ℕ → ℚ) → ℚ → Type 0
CostsHold inst s d r u = (k : ℕ) → k < column_count inst → is_looked_at inst s k ≡ true → Within (cost_limit (status_of s k) (d k) (r k)) u
