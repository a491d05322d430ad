-- The line has one link more, and moves to the bucket of its new count.
use Rattle.std.proofs.Common.{refl}
use Rattle.cross_links.proofs.Buckets.{IsKept-linked}
use Rattle.cross_links.proofs.side.Side.link.Goals as goal

pub returns-clause-kept : goal.returns-clause-kept
returns-clause-kept g c =
    IsKept-linked c.args.self.now _ c.args.i c.args.link c.index_mut.result.now c.index.result.now c.requires.kept c.requires.line c.requires.active
    c.index_mut.ensures.value c.requires.fits c.place.ensures.placed c.place.ensures.chained c.index.ensures refl refl c.shift.ensures.shifted
    c.shift.ensures.chained
