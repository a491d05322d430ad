use Rattle.std.proofs.Common.{sym, ◌∙◌, ap}
use Rattle.rational.specs.Rational.{neg_ℚ, ◌*ℚ◌}
use Rattle.bland_ratio.specs.Leave.{direction_where}
use Rattle.run_outcome.proofs.Shown.{rate_falling, rate_rising}
use Rattle.run_outcome.proofs.points.rate.Goals as goal

pub returns-then-down : goal.returns-then-down
returns-then-down c = rate_falling c.args.element ∙ ap (λ down. neg_ℚ (direction_where down) *ℚ c.args.element) (sym c.if-down.true)

pub returns-else-down : goal.returns-else-down
returns-else-down c = c.negated.ensures ∙ rate_rising c.args.element ∙ ap (λ down. neg_ℚ (direction_where down) *ℚ c.args.element) (sym c.if-down.false)
