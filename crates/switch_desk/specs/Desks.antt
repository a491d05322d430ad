-- A desk and its passes.
use Rattle.std.specs.Prelude.{◌≡◌, ℕ, ◌≤◌}
use Rattle.switch_gate.specs.declared.gate.Numbered.{Ghosts}
use Rattle.switch_gate.specs.declared.gate.Pass.{Pass}
use Rattle.switch_gate.specs.Passes.{IsPassOf, first_value, parts_of, seen_of}
use Rattle.switch_desk.specs.declared.desk.Desk.{Desk}
use Rattle.switch_desk.specs.declared.lineage.Lineage.{Lineage}
use Rattle.switch_desk.specs.declared.locked.Locked.{Locked}
use Rattle.switch_desk.specs.Lineages.{lineage_of}

module _ {A : Type 0} where
  -- the lineage of the board that the desk was made with
  abbrev pub run_of : (A → ℕ) → Desk A → Lineage
  run_of width desk = lineage_of width (first_value desk.gate)

  module _ {g : Ghosts (Locked A) Lineage} where
    -- a session by a pass leaves it the desk's, with its parts, and it has seen a number no lower
    pub record IsSession (desk : Desk A) (old new : Pass (Locked A) Lineage g) : Type 0 where
      pub pass : IsPassOf desk.gate new
      pub parts : parts_of new ≡ parts_of old
      pub seen : seen_of old ≤ seen_of new
