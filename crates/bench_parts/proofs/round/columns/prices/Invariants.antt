use Rattle.std.proofs.Common.{◌≡◌, vec_len}
use Rattle.bench_parts.proofs.round.columns.prices.Given as goal

abbrev pub invariant-loop-i : goal.invariant-loop-i
invariant-loop-i l = vec_len l.list ≡ l.i
