-- What the ratio test of a step answers.
use Rattle.std.specs.Prelude.{◌≡◌, ℕ, ◌<◌, List, length, Some, None, Bool, if◌then◌else◌}
use Rattle.lp_model.specs.declared.Entry.TheVariants.{Flip, Swap}
use Rattle.lp_model.specs.declared.Kind.TheVariants as kind
use Rattle.lp_model.specs.declared.Place.{Place}
use Rattle.rational.specs.Rational.{ℚ, one_ℚ, neg_ℚ}
use Rattle.lp_run.specs.Instance.{Instance, column_count, row_count}
use Rattle.lp_run.specs.Listing.{AllFit, first_unfit, place, ratio_listing}
use Rattle.lp_run.specs.State.{State, basic}
use Rattle.lp_run.specs.Step.{IsFree, Leaves}
use Rattle.bland_ratio.specs.declared.ratio_test.Leave.{Leave}
use Rattle.bland_ratio.specs.declared.ratio_test.Leave.TheVariants as leave
use Rattle.bland_ratio.specs.declared.ratio_test.RatioUnfit.{RatioUnfit}

-- the state has a position for each row of the instance, and columns of the instance in them
pub record IsBasisOf (inst : Instance) (s : State) : Type 0 where
  pub positions : length s.basis ≡ row_count inst
  pub in_range : (p : ℕ) → p < row_count inst → basic s p < column_count inst

-- -1 where the entering column falls, else 1
abbrev pub direction_where : Bool → ℚ
direction_where down = if down then neg_ℚ one_ℚ else one_ℚ

-- the limit that decides the step of column q, by its ratio; or that the step has none
abbrev pub Decides : Instance → State → ℕ → ℚ → List ℚ → List ℚ → Leave → Type 0
Decides inst s q t β α (leave.Flip r) = Leaves inst s q t β α (record { ratio = r; column = q; entry = Flip q })
Decides inst s q t β α (leave.Out p end r) = Leaves inst s q t β α (record { ratio = r; column = basic s p; entry = Swap q p end })
Decides inst s q t β α leave.Free = IsFree inst s q t β α

-- whatever the state's number, each value of the ratio test fits the width
abbrev pub RatiosFit : ℕ → Instance → State → ℕ → ℚ → List ℚ → List ℚ → Type 0
RatiosFit w inst s q t β α = (k : ℕ) → AllFit w (ratio_listing inst k s q t β α)

-- the place in the ratio test of column q, in a position or at the column's own range
abbrev pub ratio_place : ℕ → ℕ → RatioUnfit → Place
ratio_place k q refusal = elim refusal.position [ None ↦ place k kind.Ratio None (Some q) | Some p ↦ place k kind.Ratio (Some p) None ]

-- whatever the state's number, the first value of the ratio test that does not fit the width stands at that place
abbrev pub RatioDoesNotFit : ℕ → Instance → State → ℕ → ℚ → List ℚ → List ℚ → RatioUnfit → Type 0
RatioDoesNotFit w inst s q t β α refusal = (k : ℕ) → first_unfit w (ratio_listing inst k s q t β α) ≡ Some (ratio_place k q refusal)
