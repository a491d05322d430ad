-- The line has no entry, and is in no bucket.
use Rattle.std.proofs.Common.{refl}
use Rattle.cross_links.proofs.Buckets.{IsKept-retired}
use Rattle.cross_links.proofs.side.Side.retire.Goals as goal

pub returns-clause-kept : goal.returns-clause-kept
returns-clause-kept g c =
    IsKept-retired c.args.self.now _ c.args.i c.requires.kept c.requires.line refl refl refl c.unlink.ensures.unlinked c.unlink.ensures.chained
