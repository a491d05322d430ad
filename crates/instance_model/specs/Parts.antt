-- inner: what the parts of an instance in memory stand for, and what holds of them.
use Rattle.std.specs.Prelude.{◌≡◌, ◌≤◌, ◌^◌, All, Option, Some, None, map, length}
use Rattle.lp_model.specs.declared.Phase.{Phase}
use Rattle.lp_model.specs.declared.Phase.TheVariants.{One, Two}
use Rattle.lp_model.specs.declared.Side.{Side}
use Rattle.lp_model.specs.declared.Sense.{Sense}
use Rattle.lp_model.specs.Deck.{Interval, between, in_sense, nonnegative}
use Rattle.rational.specs.Rational.{ℚ, one_ℚ, zero_ℚ}
use Rattle.instance_model.specs.declared.instance.Structural.{Structural as Part}
use Rattle.instance_model.specs.declared.instance.Instance.TheInside.{Inside}
use Rattle.lp_run.specs.Instance.{Instance, IsWellFormed, Structural}

-- the bounds of an artificial in a phase, by the end that its row's residual passes
abbrev pub artificial_bounds : Phase → Option Side → Interval
artificial_bounds One None = between zero_ℚ zero_ℚ
artificial_bounds One (Some end) = nonnegative
artificial_bounds Two passed = between zero_ℚ zero_ℚ

-- the cost of an artificial, and that of a structural, in a phase
abbrev pub artificial_cost : Phase → Option Side → ℚ
artificial_cost One None = zero_ℚ
artificial_cost One (Some end) = one_ℚ
artificial_cost Two passed = zero_ℚ

abbrev pub structural_cost : Phase → Sense → ℚ → ℚ
structural_cost One sense cost = zero_ℚ
structural_cost Two sense cost = in_sense sense cost

abbrev pub structural_of : Part → Structural
structural_of c = record { cost = c.cost; entries = c.entries.pairs; bounds = c.bounds }

abbrev pub equations_of : Inside → Instance
equations_of a = record {
  right = a.right.items;
  structurals = map structural_of a.structurals.items;
  logicals = a.logicals.items;
  range_sums = a.range_sums.items;
  passed = a.passed.items;
  constant = a.constant;
  sense = a.sense;
}

-- the instance is well formed, its columns are as long as there are rows, and their numbers are below 2^32
pub record IsSound (a : Inside) : Type 0 where
  pub well_formed : IsWellFormed (equations_of a)
  pub long : All (λ c. c.entries.length ≡ length a.right.items) a.structurals.items
  pub few_rows : length a.right.items ≤ 65535
  pub few_columns : length a.structurals.items ≤ 2 ^ 31
