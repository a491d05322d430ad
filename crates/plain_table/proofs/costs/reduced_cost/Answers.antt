use Rattle.exact_frac.proofs.Working.{settles-exact}
use Rattle.plain_table.proofs.Moves.{settles_as}
use Rattle.plain_table.proofs.Pricing.{cost_alone, cost_priced}
use Rattle.plain_table.proofs.costs.reduced_cost.Goals as goal

pub returns-then-is_priced-clause-settled : goal.returns-then-is_priced-clause-settled
returns-then-is_priced-clause-settled g c =
    settles_as _ _ _ _ (cost_priced c.args.basic_costs.now c.args.rows.now c.args.j c.args.own (c.is_priced.ensures.some c.if-is_priced.true)) c.less_basic_costs.ensures.settled

pub returns-else-is_priced-clause-settled : goal.returns-else-is_priced-clause-settled
returns-else-is_priced-clause-settled g c =
    settles_as _ _ _ _ (cost_alone c.args.basic_costs.now c.args.rows.now c.args.j c.args.own (c.is_priced.ensures.none c.if-is_priced.false))
    (settles-exact _ c.args.own c.fit.result c.fit.ensures.answer)
