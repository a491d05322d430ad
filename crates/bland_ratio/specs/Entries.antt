-- How many numbers an instance stores.
use Rattle.std.specs.Prelude.{ℕ, zero, suc, ◌+◌, length, sum_by}
use Rattle.rational.specs.Rational.{one_unless_zero}
use Rattle.lp_run.specs.Instance.{Instance, column_kind}
use Rattle.bland_ratio.specs.Pricing.{kind_entries}

-- the stored entries of the structurals
abbrev pub stored_entries : Instance → ℕ
stored_entries inst = sum_by (λ c. length c.entries) inst.structurals

-- how many of their costs are not 0
abbrev pub nonzero_costs : Instance → ℕ
nonzero_costs inst = sum_by (λ c. one_unless_zero c.cost) inst.structurals

-- the stored entries of the structurals and their costs that are not 0
abbrev pub entry_count : Instance → ℕ
entry_count inst = stored_entries inst + nonzero_costs inst

-- the stored entries of column j; a logical and an artificial have one
abbrev pub column_entries : Instance → ℕ → ℕ
column_entries inst j = length (kind_entries inst (column_kind inst j))

-- the stored entries of so many columns, from column `from` on
abbrev pub entries_from : Instance → ℕ → ℕ → ℕ
entries_from inst from zero = 0
entries_from inst from (suc n) = entries_from inst from n + column_entries inst (from + n)
