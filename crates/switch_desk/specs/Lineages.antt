-- Of which run a board is.
use Rattle.std.specs.Prelude.{ℕ}
use Rattle.two_phase.specs.declared.board.Board.{Board}
use Rattle.switch_desk.specs.declared.lineage.Lineage.{Lineage}

-- its instance, the budget of its moves and the width of its arithmetic
abbrev pub lineage_of : {A : Type 0} → (A → ℕ) → Board A → Lineage
lineage_of width b = record { inst = b.inst.value; budget = b.budget; width = width b.arith }
