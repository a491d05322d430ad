-- Of what there is at most one at a state.
use Rattle.std.specs.Prelude.{◌≡◌, ℕ, List}
use Rattle.lp_model.specs.declared.Entry.{Entry}
use Rattle.rational.specs.Rational.{ℚ}
use Rattle.lp_run.specs.Instance.{Instance}
use Rattle.lp_run.specs.Solution.{ColumnOf, Prices, Values}
use Rattle.lp_run.specs.State.{State}
use Rattle.lp_run.specs.Step.{IsFinal, IsNext}

-- prices, basic values, a column in terms of the basis, and the next entry, of which there is none where the run ends
pub record Unique (inst : Instance) (s : State) : Type 0 where
  pub prices : (y y' : List ℚ) → Prices inst s y → Prices inst s y' → y ≡ y'
  pub values : (β β' : List ℚ) → Values inst s β → Values inst s β' → β ≡ β'
  pub column : (q : ℕ) (α α' : List ℚ) → ColumnOf inst s q α → ColumnOf inst s q α' → α ≡ α'
  pub next : (e e' : Entry) → IsNext inst s e → IsNext inst s e' → e ≡ e'
  pub none_at_end : (e : Entry) → IsNext inst s e → IsFinal inst s → ⊥
