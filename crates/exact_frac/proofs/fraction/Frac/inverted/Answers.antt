use Rattle.exact_frac.proofs.Products.{inverted_lowest, inverted_is}
use Rattle.exact_frac.proofs.fraction.Frac.inverted.Goals as goal

pub from_parts-requires : goal.from_parts-requires
from_parts-requires c = inverted_lowest _ _ _ _ c.parts-parts.ensures.splits c.requires

pub returns : goal.returns
returns c = inverted_is _ _ _ _ c.parts-parts.ensures.splits c.requires _ c.from_parts.ensures
