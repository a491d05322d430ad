-- No list has an item.
use Rattle.cross_links.proofs.Cheaps.{IsFlagged-new}
use Rattle.cross_links.proofs.cheap.Cheap.new.Goals as goal

pub returns-clause-flagged : goal.returns-clause-flagged
returns-clause-flagged c = IsFlagged-new c.args.size _ c.in_ok-new-2.ensures c.in_ok-new-3.ensures.len c.in_ok-new-3.ensures.none
