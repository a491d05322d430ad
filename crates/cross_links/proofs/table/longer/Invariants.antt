-- The entries so far, and then as many free links.
use Rattle.std.proofs.Common.{◌≡◌, ℕ, ◌<◌, length}
use Rattle.cross_links.specs.Matrix.{at_link}
use Rattle.cross_links.proofs.table.longer.Given as goal

abbrev pub invariant-loop-link : goal.invariant-loop-link
invariant-loop-link l = record {
  len : length l.more.items ≡ l.link;
  same : (k : ℕ) → k < l.link → at_link l.more.items k ≡ at_link l.entries k;
}

abbrev pub invariant-loop-link-2 : goal.invariant-loop-link-2
invariant-loop-link-2 l = record {
  len : length l.more.items ≡ l._link;
  same : (k : ℕ) → at_link l.more.items k ≡ at_link l.entries k;
}
