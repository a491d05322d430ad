use Rattle.std.proofs.Common.{take, Ok}
use Rattle.std.specs.List.{flat_map}
use Rattle.deck_tools.specs.Layout.{column_lines}
use Rattle.deck_tools.specs.Makes.{Makes}
use Rattle.deck_tools.proofs.write.put_each_column.Given as goal

-- the lines before are made
abbrev pub invariant-loop-column : goal.invariant-loop-column
invariant-loop-column l = Makes l.form l.fn.page.text.items l.page.text.items (flat_map (column_lines l.deck) (take l.column l.deck.columns)) (Ok tt)
