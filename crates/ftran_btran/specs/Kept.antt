-- What factors keep: a triangular form, operations on its rows, at most so many updates, and few entries.
use Rattle.std.specs.Prelude.{ℕ, ◌+◌, ◌*◌, ◌-◌, ◌≤◌, length}
use Rattle.factor_model.specs.Eta.{AreOps, stored}
use Rattle.factor_model.specs.Upper.{IsUpper}
use Rattle.factor_model.specs.Factors.{Factors, most_updates}

-- the rows of factors
abbrev pub size : Factors → ℕ
size f = length f.upper.rows

-- of n rows, factoring leaves at most n(n - 1)/2 entries in the operations, and each update at most n - 1 more
abbrev pub AreFew : Factors → Type 0
AreFew f = 2 * stored f.etas ≤ (size f - 1) * (size f + 2 * f.updates)

pub record AreKept (f : Factors) : Type 0 where
  pub upper : IsUpper (size f) f.upper
  pub within : AreOps (size f) f.etas
  pub few_updates : f.updates ≤ most_updates
  pub few : AreFew f
