use Rattle.switch_gate.specs.Passes.{IsPassOf}
use Rattle.bench_parts.proofs.gate.gated.sessions.Given as goal

abbrev pub invariant-loop : goal.invariant-loop
invariant-loop g l = IsPassOf l.gate l.pass
