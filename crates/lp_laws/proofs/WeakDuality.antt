-- Weak duality: prices that prove a feasible point show that no other feasible point has a better objective.
use Rattle.std.proofs.Common.{◌≡◌, List, length, Some, ◌∙◌, ap, ap₂, subst, arith}
use Rattle.std.proofs.lemmas.Int.{ints}
use Rattle.rational.specs.Rational.{ℚ, zero_ℚ, ◌+ℚ◌, ◌*ℚ◌, ◌≤ℚ◌, ◌<ℚ◌}
use Rattle.rational.proofs.RationalRing.{ring_ℚ}
use Rattle.rational.proofs.Ring.{◌≐◌, ◌⊙◌≗◌⟹◌, ◌⊕◌, ◌⊖◌, ◌⊗◌, 𝟘}
use Rattle.rational.proofs.Linear.{linear, ◌≼◌, ◌≺◌, ◌≐◌, ◌⟹◌}
use Rattle.rational.specs.Sum.{sum_ℚ, at}
use Rattle.rational.proofs.ProductOrder.{*ℚ_mono, product-turned}
use Rattle.rational.proofs.OrderLaws.{by_lt_ℚ}
use Rattle.rational.proofs.SumLaws.{sum-add, sum-cong, sum-mono}
use Rattle.lp_model.specs.Certificate.{Proves, reduced_cost, weighted_column}
use Rattle.lp_model.specs.Deck.{Deck, Interval, IsFeasible, IsOptimal, NotAbove, NotBelow, Within, activity, activity_interval, column, cost_at, in_sense, objective, row}
use Rattle.lp_laws.proofs.Sums.{priced_part, weighted_part}
use Rattle.lp_laws.proofs.Senses.{in_sense-+, in_sense-products}

-- where a number is at the end of an interval that its factor favours, no other number there has a smaller product
tight : (c x x' : ℚ) (i : Interval) → (zero_ℚ <ℚ c → i.lower ≡ Some x) → (c <ℚ zero_ℚ → i.upper ≡ Some x) → Within i x' → c *ℚ x ≤ℚ c *ℚ x'
tight c x x' i low high within =
    by_lt_ℚ zero_ℚ c
    (λ above. *ℚ_mono c x x' (linear 1 (λ c. 𝟘 ≺ c ⟹ 𝟘 ≼ c) (omega (arith, ints)) c above) (subst (λ e. NotBelow e x') (low above) within.0))
    (λ not_above. by_lt_ℚ c zero_ℚ (λ below. product-turned c x' x not_above (subst (λ e. NotAbove e x') (high below) within.1))
    (λ not_below. none (linear 1 (λ c. c ≼ 𝟘 ⟹ 𝟘 ≼ c ⟹ c ≐ 𝟘) (omega (arith, ints)) c not_above not_below)))
  where
    none : c ≡ zero_ℚ → c *ℚ x ≤ℚ c *ℚ x'
    none e =
        linear 2 (λ p p'. p ≐ 𝟘 ⟹ p' ≐ 𝟘 ⟹ p ≼ p') (omega (arith, ints)) (c *ℚ x) (c *ℚ x')
        (ring_ℚ 2 (λ c x. x ⊙ c ≗ 𝟘 ⟹ c ⊗ x ≐ 𝟘) tt c x e) (ring_ℚ 2 (λ c x. x ⊙ c ≗ 𝟘 ⟹ c ⊗ x ≐ 𝟘) tt c x' e)

module _ (d : Deck) (y : List ℚ) where
  -- the reduced costs of a list of numbers, as the sense counts them
  abbrev pub reduced_part : List ℚ → ℚ
  reduced_part z = sum_ℚ (length d.columns) (λ j. in_sense d.sense (reduced_cost d y j) *ℚ at z j)

  -- the prices of its activities, as the sense counts them
  abbrev pub price_part : List ℚ → ℚ
  price_part z = sum_ℚ (length d.rows) (λ i. in_sense d.sense (at y i) *ℚ activity d z i)

  -- a cost is that of the reduced costs and that of the prices
  cost_parts : (z : List ℚ) → cost_at d z ≡ sum_ℚ (length d.columns) (λ j. reduced_cost d y j *ℚ at z j) +ℚ priced_part d y z
  cost_parts z =
      sum-cong (length d.columns) (λ j. (column d j).cost *ℚ at z j) (λ j. reduced_cost d y j *ℚ at z j +ℚ weighted_column d y j *ℚ at z j)
      (λ j b. ring_ℚ 3 (λ c w x. c ⊗ x ≐ (c ⊖ w) ⊗ x ⊕ w ⊗ x) tt (column d j).cost (weighted_column d y j) (at z j))
      ∙ sum-add (length d.columns) (λ j. reduced_cost d y j *ℚ at z j) (λ j. weighted_column d y j *ℚ at z j)
      ∙ ap (λ s. sum_ℚ (length d.columns) (λ j. reduced_cost d y j *ℚ at z j) +ℚ s) (weighted_part d y z)

  pub parts : (z : List ℚ) → in_sense d.sense (cost_at d z) ≡ reduced_part z +ℚ price_part z
  parts z =
      ap (in_sense d.sense) (cost_parts z) ∙ in_sense-+ d.sense (sum_ℚ (length d.columns) (λ j. reduced_cost d y j *ℚ at z j)) (priced_part d y z)
      ∙ ap₂ ◌+ℚ◌ (in_sense-products d.sense (length d.columns) (reduced_cost d y) (at z)) (in_sense-products d.sense (length d.rows) (at y) (activity d z))

  module _ (x : List ℚ) (proves : Proves d x y) (x' : List ℚ) (feasible : IsFeasible d x') where
    reduced_least : reduced_part x ≤ℚ reduced_part x'
    reduced_least =
        sum-mono (length d.columns) (λ j. in_sense d.sense (reduced_cost d y j) *ℚ at x j) (λ j. in_sense d.sense (reduced_cost d y j) *ℚ at x' j)
        (λ j b. tight (in_sense d.sense (reduced_cost d y j)) (at x j) (at x' j) (column d j).bounds (proves.above j b) (proves.below j b) (feasible.columns_within j b))

    priced_least : price_part x ≤ℚ price_part x'
    priced_least =
        sum-mono (length d.rows) (λ i. in_sense d.sense (at y i) *ℚ activity d x i) (λ i. in_sense d.sense (at y i) *ℚ activity d x' i)
        (λ i b. tight (in_sense d.sense (at y i)) (activity d x i) (activity d x' i) (activity_interval (row d i)) (proves.price_above i b) (proves.price_below i b) (feasible.rows_within i b))

    objective_least : in_sense d.sense (objective d x) ≤ℚ in_sense d.sense (objective d x')
    objective_least =
        linear 9 (λ o o' k c c' r r' p p'. o ≐ k ⊕ c ⟹ o' ≐ k ⊕ c' ⟹ c ≐ r ⊕ p ⟹ c' ≐ r' ⊕ p' ⟹ r ≼ r' ⟹ p ≼ p' ⟹ o ≼ o') (omega (arith, ints))
        (in_sense d.sense (objective d x)) (in_sense d.sense (objective d x')) (in_sense d.sense d.constant)
        (in_sense d.sense (cost_at d x)) (in_sense d.sense (cost_at d x')) (reduced_part x) (reduced_part x') (price_part x) (price_part x')
        (in_sense-+ d.sense d.constant (cost_at d x)) (in_sense-+ d.sense d.constant (cost_at d x')) (parts x) (parts x') reduced_least priced_least

-- weak duality: a feasible point with prices that prove it is optimal, in any deck
pub weak : (d : Deck) (x y : List ℚ) → Proves d x y → IsOptimal d x
weak d x y proves = record { feasible = proves.feasible; least = λ x' feasible. objective_least d y x proves x' feasible }
