use Rattle.std.proofs.Common.{◌≡◌, map, take}
use Rattle.lp_model.specs.Deck.{logical_bounds}
use Rattle.instance_model.proofs.making.logicals.Given as goal

abbrev pub invariant-loop-row : goal.invariant-loop-row
invariant-loop-row l = l.logicals.items ≡ map logical_bounds (take l.row l.deck.rows)
