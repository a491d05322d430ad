-- The table that is made stands at the start, and the listing of the making decides.
use Rattle.plain_table.proofs.Makings.{start_fitted, start_overflown, start_stands}
use Rattle.plain_table.proofs.table.Table.start.Goals as goal

pub returns-in-Ok-clause-made : goal.returns-in-Ok-clause-made
returns-in-Ok-clause-made g c = (
  start_stands c.args.inst.now c.in_ok-table.ensures.well_formed c.fill.new.self c.in-Ok.ensures.filled,
  start_fitted c.args.inst.now c.in_ok-table.ensures.well_formed (g.A.Arith.width c.args.arith.now) c.requires c.in-Ok.ensures.answer,
)

pub returns-in-Err-clause-made : goal.returns-in-Err-clause-made
returns-in-Err-clause-made g c =
    start_overflown c.args.inst.now c.in_ok-table.ensures.well_formed (g.A.Arith.width c.args.arith.now) c.in-Err.place c.in-Err.ensures.answer
