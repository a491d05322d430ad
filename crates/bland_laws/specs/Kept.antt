-- What holds at every state of a run.
use Rattle.std.specs.Prelude.{◌≡◌, ℕ, ◌<◌, List}
use Rattle.lp_model.specs.declared.Phase.{Phase}
use Rattle.lp_model.specs.declared.Phase.TheVariants.{One}
use Rattle.rational.specs.Sum.{at}
use Rattle.rational.specs.Rational.{ℚ}
use Rattle.lp_model.specs.Deck.{IsUncrossed, Within}
use Rattle.lp_run.specs.Instance.{Instance, bounds, column_count, row_count}
use Rattle.lp_run.specs.Solution.{ColumnOf, Prices, Regular, Values, reduced}
use Rattle.lp_run.specs.State.{IsState, State, basic}
use Rattle.lp_run.specs.Step.{Eligible, IsFree, direction}

-- in neither phase do the bounds of a column cross
abbrev pub IsBounded : Instance → Type 0
IsBounded inst = (phase : Phase) (j : ℕ) → j < column_count inst → IsUncrossed (bounds inst phase j)

-- the basis is regular, the state is valid, the basic values are within the bounds of the phase, and in phase one no eligible column moves without a limit
pub record Kept (inst : Instance) (s : State) : Type 0 where
  pub regular : Regular inst s
  pub valid : IsState inst s
  pub has_values : (β : List ℚ) × Values inst s β
  pub within : (β : List ℚ) → Values inst s β → (p : ℕ) → p < row_count inst → Within (bounds inst s.phase (basic s p)) (at β p)
  pub never_free : s.phase ≡ One → (y β α : List ℚ) (q : ℕ) → Prices inst s y → Eligible inst s y q → ColumnOf inst s q α
      → IsFree inst s q (direction (reduced inst s y q)) β α → ⊥
