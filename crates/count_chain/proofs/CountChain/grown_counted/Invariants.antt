-- The lists below `count` were copied.
use Rattle.count_chain.proofs.Copies.{AreCopied}
use Rattle.count_chain.proofs.CountChain.grown_counted.Given as goal

abbrev pub invariant-loop-count : goal.invariant-loop-count
invariant-loop-count g l = AreCopied l.self l.chain l.items l.count
