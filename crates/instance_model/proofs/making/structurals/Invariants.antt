use Rattle.std.proofs.Common.{◌≡◌, length, map, take}
use Rattle.instance_model.specs.Inner.Starts.{part_of}
use Rattle.instance_model.proofs.making.structurals.Given as goal

abbrev pub invariant-loop-column : goal.invariant-loop-column
invariant-loop-column l = l.structurals.items ≡ map (part_of (length l.deck.rows)) (take l.column l.deck.columns)
