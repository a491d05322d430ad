-- The links below `link` are in the list.
use Rattle.cross_links.specs.Sides.{AreFree}
use Rattle.cross_links.proofs.table.free_from.Given as goal

abbrev pub invariant-loop-link : goal.invariant-loop-link
invariant-loop-link g l = AreFree l.links l.link l.total l.free
