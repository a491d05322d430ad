use Rattle.std.proofs.Common.{◌∙◌}
use Rattle.bland_ratio.proofs.Works.{rate_down, rate_up}
use Rattle.bland_ratio.proofs.quotients.rate.Goals as goal

pub returns-then-down : goal.returns-then-down
returns-then-down c = rate_down c.args.down c.args.alpha c.if-down.true

pub returns-else-down : goal.returns-else-down
returns-else-down c = c.negated.ensures ∙ rate_up c.args.down c.args.alpha c.if-down.false
