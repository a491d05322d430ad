-- What the parts of an outcome keep and answer.
use Rattle.std.specs.Prelude.{◌≢◌, ℕ, ◌<◌, List, map, Some, None}
use Rattle.std.specs.List.{range_with_len}
use Rattle.lp_model.specs.declared.Kind.TheVariants as kind
use Rattle.rational.specs.Rational.{ℚ, zero_ℚ}
use Rattle.rational.specs.Sum.{at}
use Rattle.lp_run.specs.Instance.{Instance, structural, structural_count}
use Rattle.lp_run.specs.Listing.{Term, place}

-- some structural with a cost has a value
abbrev pub HasProduct : Instance → List ℚ → Type 0
HasProduct inst x = (j : ℕ) × (j < structural_count inst) × ((structural inst j).cost ≢ zero_ℚ) × (at x j ≢ zero_ℚ)

-- the products of the objective, from a structural on
abbrev pub terms : Instance → ℕ → List ℚ → ℕ → ℕ → List Term
terms inst k x from count = map (λ j. (place k kind.Total None (Some j), ((structural inst j).cost, at x j))) (range_with_len from count)
