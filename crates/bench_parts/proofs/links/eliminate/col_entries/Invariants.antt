-- The next is an entry, and those so far stand in lines that were not removed.
use Rattle.std.proofs.Common.{◌≡◌, ◌<◌, true}
use Rattle.std.specs.List.{All}
use Rattle.std.specs.Option.{IfSome}
use Rattle.cross_links.specs.Matrix.{is_active, IsLink}
use Rattle.bench_parts.proofs.links.eliminate.col_entries.Given as goal

abbrev pub invariant-loop : goal.invariant-loop
invariant-loop l = record {
  link : IfSome l.next (IsLink l.cross);
  all : All (λ p. (p.0 < l.cross.size) × (is_active l.cross.active_rows p.0 ≡ true)) l.all.items;
}
