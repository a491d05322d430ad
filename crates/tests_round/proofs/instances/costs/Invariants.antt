use Rattle.std.proofs.Common.{◌≡◌, vec_len}
use Rattle.tests_round.proofs.instances.costs.Given as goal

abbrev pub invariant-loop : goal.invariant-loop
invariant-loop l = vec_len l.list ≡ l.counter
