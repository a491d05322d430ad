-- The three proofs that a deck may have, of which it has just one.
use Rattle.std.specs.Prelude.{◌⊎◌, List}
use Rattle.rational.specs.Rational.{ℚ, ◌≤ℚ◌}
use Rattle.lp_model.specs.Certificate.{Farkas, Proves, Ray}
use Rattle.lp_model.specs.Deck.{Deck, IsFeasible, IsOptimal, in_sense, objective}

abbrev pub HasPoint : Deck → Type 0
HasPoint d = (x : List ℚ) × IsFeasible d x

abbrev pub HasOptimum : Deck → Type 0
HasOptimum d = (x : List ℚ) × IsOptimal d x

-- no feasible point has an objective better than the number, which counts as the sense does
abbrev pub IsObjectiveBound : Deck → ℚ → Type 0
IsObjectiveBound d v = (x : List ℚ) → IsFeasible d x → v ≤ℚ in_sense d.sense (objective d x)

abbrev pub HasPrices : Deck → Type 0
HasPrices d = (x y : List ℚ) × Proves d x y

abbrev pub HasFarkas : Deck → Type 0
HasFarkas d = (y : List ℚ) × Farkas d y

abbrev pub HasRay : Deck → Type 0
HasRay d = (x r : List ℚ) × Ray d x r

-- an optimal point with prices that prove it, or a Farkas row, or a feasible point with a ray; and no two of them
pub record OneOfThree (d : Deck) : Type 0 where
  pub one : HasPrices d ⊎ (HasFarkas d ⊎ HasRay d)
  pub not_prices_and_farkas : HasPrices d → HasFarkas d → ⊥
  pub not_prices_and_ray : HasPrices d → HasRay d → ⊥
  pub not_farkas_and_ray : HasFarkas d → HasRay d → ⊥
