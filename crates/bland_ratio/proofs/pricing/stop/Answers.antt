use Rattle.std.proofs.Common.{sym, subst}
use Rattle.std.proofs.lemmas.Option.{get_or_from_slice_get}
use Rattle.lp_model.specs.declared.Status.TheVariants as status
use Rattle.lp_run.specs.Step.{Improves}
use Rattle.bland_ratio.proofs.pricing.stop.Goals as goal

pub returns-then-improves-clause-stops : goal.returns-then-improves-clause-stops
returns-then-improves-clause-stops g c = (
  c.in-Ok.d,
  c.in-Ok.ensures.cost,
  (
    (c.is_looked_at.ensures.0 c.if-not-is_looked_at.false).0,
    subst (λ st. Improves st c.in-Ok.d) (sym (get_or_from_slice_get c.args.ticket.now.status c.args.j c.get.result status.Lower c.get.ensures)) (c.improves.ensures.0 c.if-improves.true),
  ),
)
