-- How a value that is out is lent for writing.
use Rattle.std.specs.Borrow.{Fml, RattleType, MutBor, Lends}
use Rattle.switch_gate.specs.declared.gate.Numbered.{Ghosts}
use Rattle.switch_gate.specs.declared.gate.Held.{Held}
use Rattle.switch_gate.specs.contracts.gate.Held.{the_row}
use Rattle.switch_gate.specs.Passes.{with_value}

-- it ends as the last value written through r, and nothing else changes
abbrev pub lends_value : (T L : RattleType) (g : Ghosts T.Denot L.Denot) → MutBor (Held T.Denot L.Denot g) → MutBor T.Denot → Fml
lends_value T L g held r = Lends (the_row T L g) T held r (with_value held.now)
