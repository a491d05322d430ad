use Rattle.std.proofs.Common.{◌≡◌, length}
use Rattle.tests_round.proofs.instances.thirds.Given as goal

abbrev pub invariant-loop-j : goal.invariant-loop-j
invariant-loop-j l = (length l.deck.columns ≡ l.j) × (length l.deck.rows ≡ 1)
