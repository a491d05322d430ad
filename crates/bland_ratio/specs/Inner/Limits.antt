-- inner: the limits of a step as the ratio test works them, one after another.
use Rattle.std.specs.Prelude.{◌≡◌, ℕ, ◌⊎◌, List, Option, Some, None}
use Rattle.std.specs.Option.{option_map}
use Rattle.std.specs.declared.cmp.Ordering.{Ordering}
use Rattle.std.specs.declared.cmp.Ordering.TheVariants.{Less, Equal, Greater}
use Rattle.lp_model.specs.declared.Entry.TheVariants.{Flip, Swap}
use Rattle.lp_model.specs.declared.Side.{Side}
use Rattle.lp_model.specs.declared.Side.TheVariants as side
use Rattle.rational.specs.Rational.{ℚ, zero_ℚ, ◌-ℚ◌, ◌*ℚ◌, ◌/ℚ◌, neg_ℚ, abs_ℚ, cmp_ℚ}
use Rattle.rational.specs.Sum.{at}
use Rattle.rational.specs.Worked.{Worked, bind, done, work}
use Rattle.lp_model.specs.Deck.{Interval}
use Rattle.lp_run.specs.Instance.{Instance, bounds}
use Rattle.lp_run.specs.State.{State, basic}
use Rattle.lp_run.specs.Step.{Limit, NotAfter}
use Rattle.bland_ratio.specs.declared.ratio_test.Leave.{Leave}
use Rattle.bland_ratio.specs.declared.ratio_test.Leave.TheVariants as leave
use Rattle.bland_ratio.specs.declared.limits.Limit.{Limit as Found}

-- the end towards which a value moves, by how its rate compares with 0
abbrev pub end_ahead : Ordering → Interval → Option (ℚ × Side)
end_ahead Less ends = option_map (λ end. (end, side.Lower)) ends.lower
end_ahead Equal ends = None
end_ahead Greater ends = option_map (λ end. (end, side.Upper)) ends.upper

-- the distance of a value to an end
abbrev pub distance : ℚ → ℚ → Side → ℚ
distance v end side.Lower = v -ℚ end
distance v end side.Upper = end -ℚ v

-- the limit of a position: column c is there at the value v, and the entering column's element is a
abbrev pub limit_by : Option (ℚ × Side) → ℚ → ℚ → ℕ → ℕ → Worked (Option Found)
limit_by None v a c p = done None
limit_by (Some (end, at_side)) v a c p = bind (work (distance v end at_side)) (λ d. bind (work (d /ℚ abs_ℚ a)) (λ r. done (Some (record { ratio = r; column = c; out = Some (p, at_side) }))))

-- the limit of position p, where a column enters in the direction t
abbrev pub limit_work : Instance → State → ℚ → List ℚ → List ℚ → ℕ → Worked (Option Found)
limit_work inst s t β α p = limit_by (end_ahead (cmp_ℚ (neg_ℚ t *ℚ at α p) zero_ℚ) (bounds inst s.phase (basic s p))) (at β p) (at α p) (basic s p) p

-- the limit of the entering column q itself, by its ends
abbrev pub own_by : Option ℚ → Option ℚ → ℕ → Worked (Option Found)
own_by None upper q = done None
own_by (Some l) None q = done None
own_by (Some l) (Some u) q = bind (work (u -ℚ l)) (λ r. done (Some (record { ratio = r; column = q; out = None })))

abbrev pub own_work : Interval → ℕ → Worked (Option Found)
own_work ends q = own_by ends.lower ends.upper q

-- a limit of a step of column q
abbrev pub limit_of : ℕ → Found → Limit
limit_of q l = record { ratio = l.ratio; column = l.column; entry = elim l.out [ None ↦ Flip q | Some out ↦ Swap q out.0 out.1 ] }

-- which of two limits comes first, where there are two
abbrev pub IsEarlier : Option Limit → Option Limit → Option Limit → Type 0
IsEarlier None b first = first ≡ b
IsEarlier (Some a) None first = first ≡ Some a
IsEarlier (Some a) (Some b) first = ((first ≡ Some a) × NotAfter a b) ⊎ ((first ≡ Some b) × NotAfter b a)

-- what the least limit says of the step
abbrev pub leave_of : Option Found → Leave
leave_of None = leave.Free
leave_of (Some l) = elim l.out [ None ↦ leave.Flip l.ratio | Some out ↦ leave.Out out.0 out.1 l.ratio ]
