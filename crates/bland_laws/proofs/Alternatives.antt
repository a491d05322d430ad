-- Every deck has just one of the three proofs: so a deck without a feasible point has a Farkas row, and a feasible one that is bounded has an optimum.
use Rattle.std.proofs.Common.{◌↔◌, ◌⊎◌, inl, inr, arith}
use Rattle.std.proofs.lemmas.Int.{ints}
use Rattle.rational.specs.Rational.{ℚ}
use Rattle.rational.proofs.Linear.{linear, ◌≼◌, ◌≺◌, ◌⟹◌, never}
use Rattle.lp_model.specs.Deck.{Deck, IsDeck, in_sense, objective}
use Rattle.lp_model.specs.Outcome.{Outcome, infeasible, optimal, unbounded}
use Rattle.lp_laws.proofs.AlongRays.{endless}
use Rattle.lp_laws.proofs.FarkasGap.{gap}
use Rattle.lp_laws.proofs.WeakDuality.{weak}
use Rattle.bland_laws.specs.Alternatives.{HasFarkas, HasOptimum, HasPoint, HasPrices, HasRay, IsObjectiveBound, OneOfThree}
use Rattle.bland_laws.specs.OutcomeProves.{OutcomeProves}
use Rattle.lp_run.specs.Instance.{instance_of}
use Rattle.bland_laws.proofs.Existence.{some_outcome}
use Rattle.bland_laws.proofs.OfDeck.{well_formed}
use Rattle.bland_laws.proofs.OutcomeProves.{outcome_proves}

-- what a bounded objective excludes
no_ray_below : (d : Deck) (v : ℚ) → IsObjectiveBound d v → HasRay d → ⊥
no_ray_below d v bound (x, r, ray) =
    let (x', feasible, below) = endless d x r ray v in
    linear 2 (λ o v. o ≺ v ⟹ v ≼ o ⟹ never) (omega (arith, ints)) (in_sense d.sense (objective d x')) v below (bound x' feasible)

module _ (d : Deck) (deck : IsDeck d) where
  some_proof : HasPrices d ⊎ (HasFarkas d ⊎ HasRay d)
  some_proof =
      let (log, o, has) = some_outcome (instance_of d) (well_formed d deck) in
      by_outcome o (outcome_proves d deck log o has)
    where
      by_outcome : (o : Outcome) → OutcomeProves d o → HasPrices d ⊎ (HasFarkas d ⊎ HasRay d)
      by_outcome (optimal x y v) proves = inl (x, y, proves.0)
      by_outcome (infeasible y) farkas = inr (inl (y, farkas))
      by_outcome (unbounded x r) ray = inr (inr (x, r, ray))

  pub one_of_three : OneOfThree d
  one_of_three = record {
    one = some_proof;
    not_prices_and_farkas = λ p f. gap d f.0 f.1 p.0 p.2.feasible;
    not_prices_and_ray = λ p. no_ray_below d (in_sense d.sense (objective d p.0)) (weak d p.0 p.1 p.2).least;
    not_farkas_and_ray = λ f r. gap d f.0 f.1 r.0 r.2.feasible;
  }

  pub farkas_exactly : HasFarkas d ↔ (HasPoint d → ⊥)
  farkas_exactly = (λ f p. gap d f.0 f.1 p.0 p.1, by_proof some_proof)
    where
      by_proof : HasPrices d ⊎ (HasFarkas d ⊎ HasRay d) → (HasPoint d → ⊥) → HasFarkas d
      by_proof (inl (x, y, proves)) none = absurd (none (x, proves.feasible))
      by_proof (inr (inl farkas)) none = farkas
      by_proof (inr (inr (x, r, ray))) none = absurd (none (x, ray.feasible))

  pub bounded_has_optimum : HasPoint d → (v : ℚ) → IsObjectiveBound d v → HasOptimum d
  bounded_has_optimum (x, feasible) v bound = by_proof some_proof
    where
      by_proof : HasPrices d ⊎ (HasFarkas d ⊎ HasRay d) → HasOptimum d
      by_proof (inl (x, y, proves)) = (x, weak d x y proves)
      by_proof (inr (inl (y, farkas))) = absurd (gap d y farkas x feasible)
      by_proof (inr (inr ray)) = absurd (no_ray_below d v bound ray)
