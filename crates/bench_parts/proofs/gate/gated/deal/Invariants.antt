use Rattle.std.proofs.Common.{◌+◌, ◌<◌}
use Rattle.std.specs.List.{All}
use Rattle.switch_gate.specs.Passes.{parts_of, IsPassOf}
use Rattle.bench_parts.proofs.gate.gated.deal.Given as goal

-- parts are left for each thread to come
abbrev pub invariant-loop : goal.invariant-loop
invariant-loop l = IsPassOf l.gate l.pass × All (IsPassOf l.gate) l.passes.items × (l.fn.threads < parts_of l.pass + l.counter)
