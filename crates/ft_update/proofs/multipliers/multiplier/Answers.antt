use Rattle.sparse_steps.proofs.Steps.{refused}
use Rattle.ft_update.proofs.Steps.{multiplier_none, multiplier_settles, multiplier_stops}
use Rattle.ft_update.proofs.multipliers.multiplier.Goals as goal

pub returns-then-is_zero-clause-settled : goal.returns-then-is_zero-clause-settled
returns-then-is_zero-clause-settled g c =
    let wide = ((g.met.A.Arith g.world.𝓛 g.world.𝓜 g.world.𝓡 ((λ s x. x), (λ x. x), (λ x. x), λ x. x)).width_in_range c.args.arith.now).0 in
    multiplier_none _ c.args.upper.now c.args.row c.args.taken.now c.args.s c.entry-entry.result c.entry-entry.ensures c.in_ok-rest.rest wide
    (c.is_zero.ensures.0 c.if-is_zero.true) c.in_ok-rest.ensures.settled

pub returns-clause-settled : goal.returns-clause-settled
returns-clause-settled g c =
    multiplier_settles _ c.args.upper.now c.args.row c.args.taken.now c.args.s c.entry-entry.result c.entry-entry.ensures _ c.in_ok-rest.rest c.diagonal.result c.div.result
    c.less_entries.ensures.width c.diagonal.ensures.value c.in_ok-rest.ensures.settled c.div.ensures.answer

pub returns-in_err-rest-clause-settled : goal.returns-in_err-rest-clause-settled
returns-in_err-rest-clause-settled g c =
    refused _ _ _ (λ x. x) (multiplier_stops _ c.args.upper.now c.args.row c.args.taken.now c.args.s c.entry-entry.result c.entry-entry.ensures c.in_err-rest.ensures.settled) c.from_residual.ensures.1
