use Rattle.std.proofs.Common.{◌≡◌, map, take}
use Rattle.instance_model.proofs.making.right_sides.Given as goal

abbrev pub invariant-loop-row : goal.invariant-loop-row
invariant-loop-row l = l.right.items ≡ map (λ r. r.right) (take l.row l.deck.rows)
