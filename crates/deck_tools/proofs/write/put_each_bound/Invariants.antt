use Rattle.std.proofs.Common.{take, Ok}
use Rattle.std.specs.List.{flat_map}
use Rattle.deck_tools.specs.Layout.{bound_lines}
use Rattle.deck_tools.specs.Makes.{Makes}
use Rattle.deck_tools.proofs.write.put_each_bound.Given as goal

-- the lines before are made
abbrev pub invariant-loop-column : goal.invariant-loop-column
invariant-loop-column l = Makes l.form l.fn.page.text.items l.page.text.items (flat_map (bound_lines) (take l.column l.deck.columns)) (Ok tt)
