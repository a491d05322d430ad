use Rattle.std.proofs.Common.{◌≡◌, ◌<◌, ℕ, length, drop}
use Rattle.rational.specs.Sum.{at}
use Rattle.lp_run.specs.Ends.{by_position}
use Rattle.run_outcome.proofs.points.place_basic.Given as goal

-- what the positions from p on put there stands there
abbrev pub invariant-loop-p : goal.invariant-loop-p
invariant-loop-p l = record {
  count : length l.out ≡ length l.fn.out;
  placed : (j : ℕ) → j < length l.fn.out → at l.out j ≡ by_position (drop l.p l.state.basis) (drop l.p l.numbers) j (at l.fn.out j);
}
