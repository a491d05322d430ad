use Rattle.std.proofs.Common.{◌∙◌}
use Rattle.exact_frac.specs.Constants.{ratio-zero}
use Rattle.cert_check.proofs.EndLaws.{size-negative, size-none, size-positive}
use Rattle.cert_check.proofs.ends.size.Goals as goal

pub returns-in-Less : goal.returns-in-Less
returns-in-Less c = c.negated.ensures ∙ size-negative c.args.a _ ratio-zero c.in-Less.ensures

pub returns-in-Equal : goal.returns-in-Equal
returns-in-Equal c = size-none c.args.a _ ratio-zero c.in-Equal.ensures

pub returns-in-Greater : goal.returns-in-Greater
returns-in-Greater c = size-positive c.args.a _ ratio-zero c.in-Greater.ensures
