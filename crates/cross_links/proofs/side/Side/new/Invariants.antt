-- The lines so far have no entry, and stand in the bucket of 0.
use Rattle.std.proofs.Common.{◌≡◌, true, replicate}
use Rattle.cross_links.proofs.Buckets.{HasFirst}
use Rattle.cross_links.proofs.side.Side.new.Given as goal

abbrev pub invariant-loop-i : goal.invariant-loop-i
invariant-loop-i g l = record {
  counts : l.counts.items ≡ replicate l.i 0;
  active : l.active.items ≡ replicate l.i true;
  filled : HasFirst l.size l.i l.buckets;
}
