-- What was found is the link of an entry.
use Rattle.std.specs.Option.{IfSome}
use Rattle.cross_links.specs.Matrix.{IsLink}
use Rattle.bench_parts.proofs.links.scan.scan.Given as goal

abbrev pub invariant-loop-r : goal.invariant-loop-r
invariant-loop-r l = IfSome l.best (λ p. IsLink l.cross p.1)
