-- One step by Bland's rule (Bland 1977): which column enters, which column leaves, and what comes next.
use Rattle.std.specs.Prelude.{◌≡◌, ◌≢◌, ℕ, ◌+◌, ◌<◌, ◌≤◌, ◌⊎◌, List, Option, Some, None, Bool, false, if◌then◌else◌, IsFalse}
use Rattle.std.specs.Option.{option_map}
use Rattle.std.specs.declared.cmp.Ordering.{Ordering}
use Rattle.std.specs.declared.cmp.Ordering.TheVariants.{Less, Equal, Greater}
use Rattle.lp_model.specs.declared.Entry.{Entry}
use Rattle.lp_model.specs.declared.Entry.TheVariants.{Flip, Swap, Turn}
use Rattle.lp_model.specs.declared.Phase.TheVariants.{One, Two}
use Rattle.lp_model.specs.declared.Side.{Side}
use Rattle.lp_model.specs.declared.Side.TheVariants as side
use Rattle.lp_model.specs.declared.Status.{Status}
use Rattle.lp_model.specs.declared.Status.TheVariants as status
use Rattle.rational.specs.Rational.{ℚ, zero_ℚ, one_ℚ, ◌-ℚ◌, ◌*ℚ◌, ◌/ℚ◌, neg_ℚ, abs_ℚ, cmp_ℚ, eq_ℚ, lt_ℚ, ◌<ℚ◌}
use Rattle.rational.specs.Sum.{at}
use Rattle.lp_model.specs.Deck.{Interval}
use Rattle.lp_run.specs.Instance.{Instance, bounds, column_count, row_count, structural_count}
use Rattle.lp_run.specs.State.{State, basic, status_of}
use Rattle.lp_run.specs.Solution.{ColumnOf, Prices, Values, reduced}

-- both ends are finite and equal
abbrev pub is_fixed : Interval → Bool
is_fixed i = elim i.lower [ None ↦ false | Some l ↦ elim i.upper [ None ↦ false | Some u ↦ eq_ℚ l u ] ]

-- a reduced cost below 0 improves by a column that rises from its lower end, one above 0 by one that falls from its upper end; at a column that
-- stands at 0 each that is not 0 improves
abbrev pub Improves : Status → ℚ → Type 0
Improves status.Basic d = ⊥
Improves status.Lower d = d <ℚ zero_ℚ
Improves status.Upper d = zero_ℚ <ℚ d
Improves status.Zero d = d ≢ zero_ℚ

-- column j may enter: it is not basic, its ends differ, and its reduced cost improves
pub record Eligible (inst : Instance) (s : State) (y : List ℚ) (j : ℕ) : Type 0 where
  pub in_range : j < column_count inst
  pub ends_differ : IsFalse (is_fixed (bounds inst s.phase j))
  pub improves : Improves (status_of s j) (reduced inst s y j)

abbrev pub NoneEligible : Instance → State → List ℚ → Type 0
NoneEligible inst s y = (j : ℕ) → Eligible inst s y j → ⊥

-- q is the least eligible column
pub record Enters (inst : Instance) (s : State) (y : List ℚ) (q : ℕ) : Type 0 where
  pub eligible : Eligible inst s y q
  pub least : (j : ℕ) → j < q → Eligible inst s y j → ⊥

-- 1 where the entering column rises, which it does at a reduced cost below 0; else -1
abbrev pub direction : ℚ → ℚ
direction d = if lt_ℚ d zero_ℚ then one_ℚ else neg_ℚ one_ℚ

-- a limit of the step: the ratio at which it comes, the column that meets its end, and the entry that it gives
pub record Limit : Type 0 where
  pub ratio : ℚ
  pub column : ℕ
  pub entry : Entry

-- the distance to a finite end, with the side on which that end lies
abbrev pub distance_to : Option ℚ → Side → (ℚ → ℚ) → Option (ℚ × Side)
distance_to None side distance = None
distance_to (Some end) side distance = Some (distance end, side)

-- the distance of a value to the finite end towards which it moves, by how its rate compares with 0
abbrev pub distance_by : Ordering → Interval → ℚ → Option (ℚ × Side)
distance_by Less ends v = distance_to ends.lower side.Lower (λ end. v -ℚ end)
distance_by Equal ends v = None
distance_by Greater ends v = distance_to ends.upper side.Upper (λ end. end -ℚ v)

-- the distance of position p, where q enters in the direction t, the basic values are β and column q is α: its value moves at the rate -t · α_p
abbrev pub distance_at : Instance → State → ℚ → List ℚ → List ℚ → ℕ → Option (ℚ × Side)
distance_at inst s t β α p = distance_by (cmp_ℚ (neg_ℚ t *ℚ at α p) zero_ℚ) (bounds inst s.phase (basic s p)) (at β p)

-- the limit of position p: its distance over the size of its rate
abbrev pub limit_at : Instance → State → ℕ → ℚ → List ℚ → List ℚ → ℕ → Option Limit
limit_at inst s q t β α p =
    option_map (λ d. record { ratio = d.0 /ℚ abs_ℚ (at α p); column = basic s p; entry = Swap q p d.1 }) (distance_at inst s t β α p)

-- the limit of the entering column itself: the distance between its ends
abbrev pub own_limit : Interval → ℕ → Option Limit
own_limit ends q = elim ends.lower [ None ↦ None | Some l ↦ elim ends.upper [ None ↦ None | Some u ↦ Some (record { ratio = u -ℚ l; column = q; entry = Flip q }) ] ]

-- the limits of a step
abbrev pub IsLimit : Instance → State → ℕ → ℚ → List ℚ → List ℚ → Limit → Type 0
IsLimit inst s q t β α limit =
    ((p : ℕ) × (p < row_count inst) × (limit_at inst s q t β α p ≡ Some limit)) ⊎ (own_limit (bounds inst s.phase q) q ≡ Some limit)

-- a limit comes first by its ratio, and at equal ratios by its column
abbrev pub NotAfter : Limit → Limit → Type 0
NotAfter a b = (a.ratio <ℚ b.ratio) ⊎ ((a.ratio ≡ b.ratio) × (a.column ≤ b.column))

-- the limit that decides the step of q
pub record Leaves (inst : Instance) (s : State) (q : ℕ) (t : ℚ) (β α : List ℚ) (limit : Limit) : Type 0 where
  pub is_limit : IsLimit inst s q t β α limit
  pub first : (other : Limit) → IsLimit inst s q t β α other → NotAfter limit other

-- the step of q has no limit
abbrev pub IsFree : Instance → State → ℕ → ℚ → List ℚ → List ℚ → Type 0
IsFree inst s q t β α = (limit : Limit) → IsLimit inst s q t β α limit → ⊥

-- what one step works with: the prices, the basic values, the entering column and that column in terms of the basis
pub record Pivoting (inst : Instance) (s : State) (y β α : List ℚ) (q : ℕ) : Type 0 where
  pub prices : Prices inst s y
  pub values : Values inst s β
  pub enters : Enters inst s y q
  pub column : ColumnOf inst s q α

-- the next entry is the move e
abbrev pub StepsBy : Instance → State → Entry → Type 0
StepsBy inst s e = (y β α : List ℚ) × (q : ℕ) × (limit : Limit) × Pivoting inst s y β α q × Leaves inst s q (direction (reduced inst s y q)) β α limit × (limit.entry ≡ e)

-- no column is eligible at the prices y, and the basic values are β
pub record Rests (inst : Instance) (s : State) (y β : List ℚ) : Type 0 where
  pub prices : Prices inst s y
  pub values : Values inst s β
  pub none_eligible : NoneEligible inst s y

abbrev pub IsArtificial : Instance → ℕ → Type 0
IsArtificial inst j = structural_count inst + row_count inst ≤ j

-- every artificial has the value 0; one that is not basic rests at 0
abbrev pub ArtificialsZero : Instance → State → List ℚ → Type 0
ArtificialsZero inst s β = (p : ℕ) → p < row_count inst → IsArtificial inst (basic s p) → at β p ≡ zero_ℚ

-- phase one has found a feasible point
abbrev pub Turns : Instance → State → Type 0
Turns inst s = (s.phase ≡ One) × ((y β : List ℚ) × Rests inst s y β × ArtificialsZero inst s β)

-- ── the three ends of a run ──

-- phase two, and no column is eligible
abbrev pub EndsOptimal : Instance → State → List ℚ → List ℚ → Type 0
EndsOptimal inst s y β = (s.phase ≡ Two) × Rests inst s y β

-- phase one, no column is eligible, and some artificial is not 0
abbrev pub EndsInfeasible : Instance → State → List ℚ → List ℚ → Type 0
EndsInfeasible inst s y β = (s.phase ≡ One) × Rests inst s y β × (ArtificialsZero inst s β → ⊥)

-- the least eligible column moves without a limit
abbrev pub EndsFree : Instance → State → List ℚ → List ℚ → List ℚ → ℕ → Type 0
EndsFree inst s y β α q = Pivoting inst s y β α q × IsFree inst s q (direction (reduced inst s y q)) β α

-- an end other than at an optimum
abbrev pub EndsOtherwise : Instance → State → Type 0
EndsOtherwise inst s = ((y β : List ℚ) × EndsInfeasible inst s y β) ⊎ ((y β α : List ℚ) × (q : ℕ) × EndsFree inst s y β α q)

-- e is the next entry
abbrev pub IsNext : Instance → State → Entry → Type 0
IsNext inst s (Flip q) = StepsBy inst s (Flip q)
IsNext inst s (Swap q p end) = StepsBy inst s (Swap q p end)
IsNext inst s Turn = Turns inst s

-- there is no next entry
abbrev pub IsFinal : Instance → State → Type 0
IsFinal inst s = ((y β : List ℚ) × EndsOptimal inst s y β) ⊎ EndsOtherwise inst s
