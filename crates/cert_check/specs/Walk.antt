-- The walk of the checker: the items of an outcome in order, and the first that stops it.
use Rattle.std.specs.Prelude.{ℕ, List, [], ◌∷◌, ◌++◌, map, length, Option, Some, None, Bool, true, false}
use Rattle.lp_model.specs.Basis.{Basis}
use Rattle.lp_model.specs.Deck.{Deck}
use Rattle.lp_model.specs.Outcome.{Outcome, optimal, infeasible, unbounded}
use Rattle.rational.specs.Rational.{ℚ}
use Rattle.rational.specs.Sparse.{upto}
use Rattle.rational.specs.Worked.{Worked, settle}
use Rattle.cert_check.specs.declared.verdict.Rule.{Rule}
use Rattle.cert_check.specs.declared.verdict.Rule.TheVariants as rule
use Rattle.cert_check.specs.declared.verdict.Stop.{Stop}
use Rattle.cert_check.specs.declared.verdict.Stop.TheVariants.{Broken, Unfit}
use Rattle.cert_check.specs.Items.{basic_cost_item, basic_weight_item, basis_item, column_item, endless_column_item, endless_row_item, gap_item, objective_item, price_item, ray_column_item, ray_cost_item, ray_row_item, reduced_item, rest_item, row_item}

-- an item: its rule, and what is worked there, with whether it holds
pub record Item : Type 0 where
  pub rule : Rule
  pub sums : Worked Bool

-- an item for each of so many columns, or rows, in rising order
abbrev pub each : (ℕ → Rule) → (ℕ → Worked Bool) → ℕ → List Item
each rule_of sums_of count = map (λ k. record { rule = rule_of k; sums = sums_of k }) (upto count)

abbrev pub one : Rule → Worked Bool → List Item
one rule sums = record { rule = rule; sums = sums } ∷ []

-- columns, then rows: the point is feasible
abbrev pub point_walk : Deck → List ℚ → List Item
point_walk d x = each rule.Column (column_item d x) (length d.columns) ++ each rule.Row (row_item d x) (length d.rows)

-- the items of an outcome
abbrev pub outcome_walk : Deck → Outcome → List Item
outcome_walk d (optimal x y stated) =
    point_walk d x
    ++ one rule.Objective (objective_item d x stated)
    ++ each rule.Reduced (reduced_item d x y) (length d.columns)
    ++ each rule.Price (price_item d x y) (length d.rows)
outcome_walk d (infeasible y) =
    each rule.EndlessColumn (endless_column_item d y) (length d.columns)
    ++ each rule.EndlessRow (endless_row_item d y) (length d.rows)
    ++ one rule.Gap (gap_item d y)
outcome_walk d (unbounded x r) =
    point_walk d x
    ++ each rule.RayColumn (ray_column_item d r) (length d.columns)
    ++ each rule.RayRow (ray_row_item d r) (length d.rows)
    ++ one rule.RayCost (ray_cost_item d r)

-- the items of a basis: the basis itself, then where the columns of a point stand, then that basic columns cost nothing
abbrev pub basis_walk : Deck → Outcome → Basis → List Item
basis_walk d (optimal x y stated) b =
    one rule.Basis (basis_item b) ++ each rule.Rest (rest_item d b x) (length d.columns) ++ each rule.Basic (basic_cost_item d b y) (length d.columns)
basis_walk d (infeasible y) b = one rule.Basis (basis_item b) ++ each rule.Basic (basic_weight_item d b y) (length d.columns)
basis_walk d (unbounded x r) b = one rule.Basis (basis_item b) ++ each rule.Rest (rest_item d b x) (length d.columns)

-- all items: those of the outcome, and then those of the basis where one is told
abbrev pub walk : Deck → Outcome → Option Basis → List Item
walk d o None = outcome_walk d o
walk d o (Some b) = outcome_walk d o ++ basis_walk d o b

-- ── the first item that stops the walk ──

-- why an item whose sums settle so stops the walk at a rule
abbrev pub stop_by : Rule → Option Bool → Option Stop
stop_by rule None = Some (Unfit rule)
stop_by rule (Some true) = None
stop_by rule (Some false) = Some (Broken rule)

-- an item stops the walk where one of its worked values does not fit the width, or else where it does not hold
abbrev pub stop_at : ℕ → Item → Option Stop
stop_at w item = stop_by item.rule (settle w item.sums)

abbrev pub or_later : Option Stop → Option Stop → Option Stop
or_later None later = later
or_later (Some stop) later = Some stop

-- what stops the walk first
abbrev pub first_stop : ℕ → List Item → Option Stop
first_stop w [] = None
first_stop w (item ∷ items) = or_later (stop_at w item) (first_stop w items)
