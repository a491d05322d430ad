-- An outcome as the program holds it.
use Rattle.std.specs.Prelude.{◌≡◌, length}
use Rattle.deck_model.specs.declared.outcome.Outcome.{Outcome}
use Rattle.deck_model.specs.declared.outcome.Outcome.TheVariants.{Optimal, Infeasible, Unbounded}
use Rattle.lp_model.specs.Deck.{Deck}
use Rattle.lp_model.specs.Outcome.{Outcome as Result, optimal, infeasible, unbounded}

-- the outcome that it stands for
abbrev pub outcome_of : Outcome → Result
outcome_of (Optimal x y objective) = optimal x y objective
outcome_of (Infeasible y) = infeasible y
outcome_of (Unbounded x ray) = unbounded x ray

-- the outcome's lists have a number for each column, or for each row, of the deck
abbrev pub HasLengthsOf : Deck → Result → Type 0
HasLengthsOf d (optimal x y objective) = (length x ≡ length d.columns) × (length y ≡ length d.rows)
HasLengthsOf d (infeasible y) = length y ≡ length d.rows
HasLengthsOf d (unbounded x ray) = (length x ≡ length d.columns) × (length ray ≡ length d.columns)
