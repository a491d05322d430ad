-- What is listed where the first table is made, and what its rows are.
use Rattle.std.specs.Prelude.{◌≡◌, ℕ, ◌<◌, List, [], map, get_or, ◌+◌, Some, None, if◌then◌else◌, sum_by}
use Rattle.lp_model.specs.declared.Kind.TheVariants as kind
use Rattle.rational.specs.Rational.{ℚ, one_ℚ, one_unless_zero, ◌-ℚ◌, ◌*ℚ◌}
use Rattle.rational.specs.Sparse.{entry_at, upto}
use Rattle.rational.specs.Sum.{at}
use Rattle.rational.specs.Worked.{Worked}
use Rattle.lp_run.specs.Instance.{Instance, column_count, is_needed, passed_side, residual, row_count, sign_past, start_value, structural, structural_count}
use Rattle.lp_run.specs.Listing.{Listed, place, start_entry}
use Rattle.lp_run.specs.State.{rest, start_of}
use Rattle.plain_table.specs.Inner.Costs.{factors_from, priced}

abbrev pub start_row_listing : Instance → ℕ → List Listed
start_row_listing inst p = map (λ j. (place 0 kind.Entry (Some p) (Some j), start_entry inst p j)) (upto (column_count inst))

-- the row of position p
abbrev pub IsStartRow : Instance → ℕ → List ℚ → Type 0
IsStartRow inst p row = (j : ℕ) → j < column_count inst → at row j ≡ start_entry inst p j

abbrev pub AreStartRows : Instance → List (List ℚ) → Type 0
AreStartRows inst rows = (p : ℕ) → p < row_count inst → IsStartRow inst p (get_or rows p [])

-- the right side of row i less the structurals at their start
abbrev pub residual_work : Instance → ℕ → Worked ℚ
residual_work inst i =
    priced (at inst.right i) (factors_from (λ j. entry_at (structural inst j).entries i) (λ j. start_value (structural inst j).bounds) 0 (structural_count inst))

-- where the logical of row i rests at the start; 0 where it is basic
abbrev pub logical_rest : Instance → ℕ → ℚ
logical_rest inst i = rest inst (start_of inst) (structural_count inst + i)

-- the basic value of position i at the start: what the residual leaves beside the logical, with the sign of the artificial where it is needed
abbrev pub basic_start : Instance → ℕ → ℚ
basic_start inst i = (if is_needed inst i then sign_past (passed_side inst i) else one_ℚ) *ℚ (residual inst i -ℚ logical_rest inst i)

abbrev pub start_values_listing : Instance → List Listed
start_values_listing inst = map (λ p. (place 0 kind.Value (Some p) None, basic_start inst p)) (upto (row_count inst))

-- how many structurals have an entry in row i
abbrev pub row_entries : Instance → ℕ → ℕ
row_entries inst i = sum_by (λ c. one_unless_zero (entry_at c.entries i)) inst.structurals
