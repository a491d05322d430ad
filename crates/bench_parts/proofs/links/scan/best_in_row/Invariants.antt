-- What was found, and what comes next, are links of entries.
use Rattle.std.specs.Option.{IfSome}
use Rattle.cross_links.specs.Matrix.{IsLink}
use Rattle.bench_parts.proofs.links.scan.best_in_row.Given as goal

abbrev pub invariant-loop : goal.invariant-loop
invariant-loop l = record {
  at : IfSome l.at (IsLink l.cross);
  best : IfSome l.best (λ p. IsLink l.cross p.1);
}
