-- How much factors of m rows work, in products and quotients.
use Rattle.std.specs.Prelude.{ℕ, ◌+◌, ◌*◌, ◌/◌, ◌==◌, if◌then◌else◌}
use Rattle.factor_model.specs.Factors.{most_updates}

-- a solve for a row or for a column, by factors that have had at most 64 updates
abbrev pub solve_most : ℕ → ℕ
solve_most m = (3 * (m * m) + 129 * m) / 2

-- the factors after an exchange: an update, or where they have had the most updates a factorisation
abbrev pub follow_work : ℕ → ℕ → ℕ
follow_work m updates = if updates == most_updates then m * m * m else m * m
