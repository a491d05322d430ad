use Rattle.std.proofs.Common.{map, take, Ok}
use Rattle.deck_tools.specs.Layout.{kind_word, row_line}
use Rattle.deck_tools.specs.Makes.{Makes}
use Rattle.deck_tools.proofs.write.put_each_row.Given as goal

-- the lines before are made
abbrev pub invariant-loop-row : goal.invariant-loop-row
invariant-loop-row l = Makes l.form l.fn.page.text.items l.page.text.items (map (λ r. row_line (kind_word r.kind) r.name) (take l.row l.deck.rows)) (Ok tt)
