use Rattle.std.proofs.Common.{take, Ok}
use Rattle.std.specs.List.{flat_map}
use Rattle.deck_tools.specs.Layout.{range_lines}
use Rattle.deck_tools.specs.Makes.{Makes}
use Rattle.deck_tools.proofs.write.put_each_range.Given as goal

-- the lines before are made
abbrev pub invariant-loop-row : goal.invariant-loop-row
invariant-loop-row l = Makes l.form l.fn.page.text.items l.page.text.items (flat_map (range_lines) (take l.row l.deck.rows)) (Ok tt)
