use Rattle.std.proofs.Common.{◌∙◌}
use Rattle.exact_frac.proofs.Lowest.{cmp_split}
use Rattle.exact_frac.proofs.fraction.FracOrd.cmp.Goals as goal

pub returns : goal.returns
returns c = c.compare.ensures ∙ cmp_split _ _ _ _ _ _ _ _ c.parts.ensures.splits c.parts-2.ensures.splits
