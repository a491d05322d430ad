-- The words of a gate's contracts.
use Rattle.std.specs.Prelude.{◌≡◌, ℕ, List, Some}
use Rattle.switch_gate.specs.declared.gate.Numbered.{Ghosts}
use Rattle.switch_gate.specs.declared.gate.Gate.{Gate}
use Rattle.switch_gate.specs.declared.gate.Pass.{Pass}
use Rattle.switch_gate.specs.declared.gate.Held.{Held}

module _ {T L : Type 0} {g : Ghosts T L} where
  -- how many of the gate's parts the pass has
  abbrev pub parts_of : Pass T L g → ℕ
  parts_of pass = pass.seat.me.0.parts

  -- the number that the value had when the pass saw it last
  abbrev pub seen_of : Pass T L g → ℕ
  seen_of pass = pass.seat.me.0.seen

  -- the numbers that the pass's sessions added
  abbrev pub mine_of : Pass T L g → List ℕ
  mine_of pass = pass.seat.me.0.mine

  -- the value that is out
  abbrev pub value_of : Held T L g → T
  value_of held = held.value

  -- the number that the value had when it was taken
  abbrev pub old_number : Held T L g → ℕ
  old_number held = held.hold.old

  -- the parts of the pass that took it
  abbrev pub held_parts : Held T L g → ℕ
  held_parts held = held.hold.seat.me.0.parts

  -- the numbers that the sessions of that pass added before
  abbrev pub held_mine : Held T L g → List ℕ
  held_mine held = held.hold.seat.me.0.mine

  -- the same with another value
  abbrev pub with_value : Held T L g → T → Held T L g
  with_value held x = record { value = x; hold = held.hold }

module _ {T L : Type 0} where
  -- how many parts the passes of the gate have together
  abbrev pub parts_in : Gate T L → ℕ
  parts_in gate = gate.table.shared.key.parts

  -- the value that the gate was made with
  abbrev pub first_value : Gate T L → T
  first_value gate = gate.table.shared.key.value.value

module _ {T L : Type 0} {g : Ghosts T L} where
  -- it is a pass of this gate
  abbrev pub IsPassOf : Gate T L → Pass T L g → Type 0
  IsPassOf gate pass = (pass.seat.table_id ≡ gate.table.shared.table_id) × (pass.seat.me.0.lineage ≡ Some (g.lineage (first_value gate)))

  -- the value that is out is this gate's
  abbrev pub IsHeldOf : Gate T L → Held T L g → Type 0
  IsHeldOf gate held = (held.hold.seat.table_id ≡ gate.table.shared.table_id) × (held.hold.seat.me.0.lineage ≡ Some (g.lineage (first_value gate)))
