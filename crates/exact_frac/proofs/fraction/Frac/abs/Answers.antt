use Rattle.std.proofs.Common.{◌∙◌}
use Rattle.rational.proofs.OrderLaws.{size_above, size_below, size_equal}
use Rattle.exact_frac.specs.Constants.{ratio-zero}
use Rattle.exact_frac.proofs.fraction.Frac.abs.Goals as goal

pub returns-in-Less : goal.returns-in-Less
returns-in-Less c = c.negated.ensures ∙ size_below c.args.self _ ratio-zero c.in-Less.ensures

pub returns-in-Equal : goal.returns-in-Equal
returns-in-Equal c = size_equal c.args.self _ ratio-zero c.in-Equal.ensures

pub returns-in-Greater : goal.returns-in-Greater
returns-in-Greater c = size_above c.args.self _ ratio-zero c.in-Greater.ensures
