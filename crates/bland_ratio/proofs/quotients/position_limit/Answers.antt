use Rattle.std.proofs.Common.{sym, ◌∙◌, arith}
use Rattle.sparse_steps.proofs.Steps.{item_read}
use Rattle.bland_ratio.specs.Leave.{direction_where}
use Rattle.bland_ratio.proofs.Works.{idle_position}
use Rattle.bland_ratio.proofs.quotients.position_limit.Goals as goal

pub returns-then-is_zero-clause-settled : goal.returns-then-is_zero-clause-settled
returns-then-is_zero-clause-settled g c =
    let element = item_read c.args.alpha.now c.args.position c.index-alpha-position.result (omega (arith, c.requires.position, c.requires.alpha)) c.index-alpha-position.is in
    idle_position c.args.inst.now c.args.state.now (direction_where c.args.down) c.args.values.now c.args.alpha.now c.args.position _ (sym element ∙ c.is_zero.ensures.0 c.if-is_zero.true)
