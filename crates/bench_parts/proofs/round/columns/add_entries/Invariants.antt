use Rattle.std.proofs.Common.{◌≡◌, length}
use Rattle.bench_parts.proofs.round.columns.add_entries.Given as goal

abbrev pub invariant-loop-k : goal.invariant-loop-k
invariant-loop-k l = (length l.deck.columns ≡ length l.fn.deck.columns) × (length l.deck.rows ≡ 100)
