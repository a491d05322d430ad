use Rattle.std.proofs.Common.{arith}
use Rattle.std.proofs.lemmas.Bool.{not-false}
use Rattle.exact_frac.proofs.Floors.{below_is}
use Rattle.exact_frac.proofs.fraction.sum.floor_and_part.Goals as goal

pub returns-else-rest-eq0 : goal.returns-else-rest-eq0
returns-else-rest-eq0 c =
    below_is c.args.parts.negative c.args.parts.size c.args.parts.denom _ _ (not-false _ c.if-not-parts.false) c.requires.below c.requires.some
    c.div_rem-whole.ensures.quotient c.div_rem-whole.ensures.rest (omega arith)
