use Rattle.std.proofs.Common.{◌≡◌, map}
use Rattle.rational.specs.Sparse.{upto}
use Rattle.deck_tools.specs.Transport.{source}
use Rattle.deck_tools.proofs.NewNames.{based}
use Rattle.deck_tools.proofs.making.add_sources.Given as goal

-- so many sources are there
abbrev pub invariant-loop-k : goal.invariant-loop-k
invariant-loop-k l = l.deck ≡ based (map source (upto l.k))
