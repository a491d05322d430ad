use Rattle.std.proofs.Common.{List, sym, subst}
use Rattle.rational.specs.Rational.{ℚ}
use Rattle.lp_model.specs.Deck.{IsFeasible}
use Rattle.deck_tools.proofs.Shipping.{is_feasible}
use Rattle.deck_tools.proofs.making.make.Goals as goal

pub returns-clause-feasible : goal.returns-clause-feasible
returns-clause-feasible c = subst (λ d. (x : List ℚ) × IsFeasible d x) (sym c.in_ok-add_routes.ensures) (is_feasible c.args.n)
