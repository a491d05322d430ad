-- What a move works with: the direction in which its column moves, and how far.
use Rattle.std.specs.Prelude.{◌≡◌, ℕ, ◌+◌, List, [], ◌∷◌, ◌++◌, get_or, length}
use Rattle.lp_model.specs.declared.Entry.{Entry}
use Rattle.lp_model.specs.declared.Entry.TheVariants.{Swap}
use Rattle.lp_model.specs.declared.Side.{Side}
use Rattle.rational.specs.Rational.{ℚ, zero_ℚ}
use Rattle.rational.specs.Sum.{at}
use Rattle.bland_ratio.specs.Leave.{direction_where}
use Rattle.bland_ratio.specs.declared.ratio_test.Leave.{Leave}
use Rattle.bland_ratio.specs.declared.ratio_test.Leave.TheVariants as leave
use Rattle.lp_run.specs.Instance.{Instance}
use Rattle.lp_run.specs.Listing.{Listed, ratio_listing}
use Rattle.lp_run.specs.State.{State, after}
use Rattle.lp_run.specs.Step.{IsNext, Leaves, Limit, direction}
use Rattle.lp_run.specs.Tableau.{table_column}
use Rattle.plain_table.specs.declared.motion.Motion.{Motion}
use Rattle.plain_table.specs.declared.motion.Parts.{Parts}
use Rattle.plain_table.specs.Plain.{Plain, Stands}
use Rattle.plain_table.specs.Inner.Rows.{AreTaken, AreWide}

-- the table of these parts
abbrev pub table_of : State → List (List ℚ) → List ℚ → List ℚ → ℕ → Plain
table_of s rows values costs number = record { state = s; rows = rows; values = values; costs = costs; number = number }

-- the table that has these parts
abbrev pub parts_table : Parts → Plain
parts_table t = table_of t.state.now t.rows.now t.values.now t.costs.now t.number

-- the ratio of the limit that decides
abbrev pub ratio_by : Leave → ℚ
ratio_by (leave.Flip r) = r
ratio_by (leave.Out p end r) = r
ratio_by leave.Free = zero_ℚ

-- column q of the rows, by position
abbrev pub column_of : Instance → List (List ℚ) → ℕ → List ℚ
column_of inst rows q = table_column inst (λ i j. at (get_or rows i []) j) q

-- a limit decides the step of column q, by the rows, the basic values and the reduced costs
abbrev pub IsDecided : Instance → State → List (List ℚ) → List ℚ → List ℚ → ℕ → Limit → Type 0
IsDecided inst s rows values costs q limit = Leaves inst s q (direction (at costs q)) values (column_of inst rows q) limit

-- what the ratio test of column q lists under number k
abbrev pub test_listing : Instance → ℕ → State → List (List ℚ) → List ℚ → List ℚ → ℕ → List Listed
test_listing inst k s rows values costs q = ratio_listing inst k s q (direction (at costs q)) values (column_of inst rows q)

-- the column moves in its direction by the ratio of the limit that decides
abbrev pub IsMotion : Instance → State → List (List ℚ) → List ℚ → List ℚ → ℕ → Motion → Type 0
IsMotion inst s rows values costs q m =
    (direction (at costs q) ≡ direction_where m.down) × ((limit : Limit) × IsDecided inst s rows values costs q limit × (limit.ratio ≡ m.ratio))

-- where the first table stands, the second one stands after the entry
abbrev pub StepsTo : Instance → Plain → Entry → Plain → Type 0
StepsTo inst t e t' = (log : List Entry) → Stands inst log t → Stands inst (log ++ e ∷ []) t'

-- a swap of column q and position p leads to the rows that are taken over from those that are worked, with these basic values and reduced costs
abbrev pub SwapsTo : Instance → Plain → ℕ → ℕ → List ℚ → List ℕ → List (List ℚ) → List ℚ → List ℚ → Type 0
SwapsTo inst t q p by columns out values costs =
    (end : Side) (new : List (List ℚ)) → IsNext inst t.state (Swap q p end) → length new ≡ length t.rows → AreWide (length t.costs) new → AreTaken p 0 q by columns t.rows out new
    → StepsTo inst t (Swap q p end) (table_of (after t.state (Swap q p end)) new values costs (t.number + 1))
