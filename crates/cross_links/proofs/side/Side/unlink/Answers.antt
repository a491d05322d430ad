-- The line has one link less, and moves to the bucket of its new count.
use Rattle.std.proofs.Common.{refl, arith}
use Rattle.cross_links.proofs.Buckets.{IsKept-unlinked, line_within}
use Rattle.cross_links.proofs.side.Side.unlink.Goals as goal

pub returns-clause-kept : goal.returns-clause-kept
returns-clause-kept g c =
    let s = c.args.self.now in
    IsKept-unlinked s _ c.args.i c.args.link c.index_mut.result.now c.index.result.now c.requires.kept
    (line_within s.lines c.args.i c.args.link c.requires.held) c.requires.active c.index_mut.ensures.value c.requires.held
    (omega (arith, c.requires.fits, c.requires.kept.bucketed.lists)) c.unlink.ensures.unlinked c.unlink.ensures.chained c.index.ensures refl refl
    c.shift.ensures.shifted c.shift.ensures.chained
