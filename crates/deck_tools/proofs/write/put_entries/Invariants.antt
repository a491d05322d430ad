use Rattle.std.proofs.Common.{map, take, Ok}
use Rattle.lp_model.specs.Deck.{column, row}
use Rattle.deck_tools.specs.Layout.{pair_line}
use Rattle.deck_tools.specs.Makes.{Makes}
use Rattle.deck_tools.proofs.write.put_entries.Given as goal

-- the lines before are made
abbrev pub invariant-loop-k : goal.invariant-loop-k
invariant-loop-k l =
    let c = column l.deck l.fn.column in
    Makes l.form l.fn.page.text.items l.page.text.items (map (λ e. pair_line c.name (row l.deck e.0).name e.1) (take l.k c.entries)) (Ok tt)
