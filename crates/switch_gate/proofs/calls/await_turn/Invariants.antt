use Rattle.std.proofs.Common.{◌≡◌, ℕ, ◌%◌}
use Rattle.switch_gate.specs.declared.view.Place.TheVariants.{Waits}
use Rattle.switch_gate.specs.Gates.{placed}
use Rattle.switch_gate.proofs.calls.await_turn.Given as goal

-- it waits for the turn that it drew
abbrev pub invariant-loop : goal.invariant-loop
invariant-loop g l =
    (l.seat.table_id ≡ l.fn.seat.table_id)
    × ((t : ℕ) × (t % 18446744073709551616 ≡ l.turn) × (l.seat.me ≡ (placed l.fn.seat.me.0 (Waits t), l.fn.seat.me.1)))
