use Rattle.std.proofs.Common.{◌≡◌, length}
use Rattle.bench_parts.proofs.round.columns.deck.Given as goal

abbrev pub invariant-loop-i : goal.invariant-loop-i
invariant-loop-i l = (length l.deck.columns ≡ 0) × (length l.deck.rows ≡ l.i)

abbrev pub invariant-loop-j : goal.invariant-loop-j
invariant-loop-j l = (length l.deck.columns ≡ l.j) × (length l.deck.rows ≡ 100)
