-- What an outcome proves of its deck.
use Rattle.std.specs.Prelude.{◌≡◌}
use Rattle.lp_model.specs.Certificate.{Farkas, Proves, Ray}
use Rattle.lp_model.specs.Deck.{Deck, objective}
use Rattle.lp_model.specs.Outcome.{Outcome, optimal, infeasible, unbounded}

-- the point is optimal by the prices and has the value, or the row is a Farkas row, or the ray leads from the feasible point without end
abbrev pub OutcomeProves : Deck → Outcome → Type 0
OutcomeProves d (optimal x y v) = Proves d x y × (v ≡ objective d x)
OutcomeProves d (infeasible y) = Farkas d y
OutcomeProves d (unbounded x r) = Ray d x r
