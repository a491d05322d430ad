use Rattle.std.proofs.Common.{◌≡◌, ◌++◌, map}
use Rattle.rational.specs.Sparse.{upto}
use Rattle.deck_tools.specs.Transport.{sink, source}
use Rattle.deck_tools.proofs.NewNames.{based}
use Rattle.deck_tools.proofs.making.add_sinks.Given as goal

-- so many sinks are there
abbrev pub invariant-loop-k : goal.invariant-loop-k
invariant-loop-k l = l.deck ≡ based (map source (upto l.n) ++ map sink (upto l.k))
