use Rattle.std.proofs.Common.{◌≡◌}
use Rattle.switch_gate.specs.Passes.{parts_of, IsPassOf}
use Rattle.switch_gate.proofs.tests.count_each.Given as goal

abbrev pub invariant-loop : goal.invariant-loop
invariant-loop g l = IsPassOf l.gate l.pass × (parts_of l.pass ≡ parts_of l.fn.pass)
