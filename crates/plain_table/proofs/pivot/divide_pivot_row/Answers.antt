-- The line that is divided is the pivot row.
use Rattle.std.proofs.Common.{List, [], length, sym, ◌∙◌, ap}
use Rattle.std.proofs.lemmas.Result.{on_ok_weaker}
use Rattle.rational.specs.Rational.{ℚ}
use Rattle.rational.specs.Sum.{at}
use Rattle.plain_table.proofs.Lines.{item_read}
use Rattle.plain_table.proofs.Pivots.{by_is, line_judged}
use Rattle.plain_table.proofs.pivot.divide_pivot_row.Goals as goal

pub returns-clause-answer : goal.returns-clause-answer
returns-clause-answer g c =
    let v = c.args.pivot.now in
    let rows = c.args.rows.now in
    let same = c.as_slice.ensures ∙ item_read rows v.position c.index-rows-pivot.result [] c.requires.position c.index-rows-pivot.is in
    line_judged v rows c.as_slice.result.now c.get.result same (c.get.ensures ∙ ap (λ (u : List ℚ). at u v.column)
    (sym c.as_slice.ensures)) _ c.line_place-here.result c.divide_line.result c.line_place-here.ensures c.divide_line.ensures.answer

pub returns-clause-divided : goal.returns-clause-divided
returns-clause-divided g c =
    let v = c.args.pivot.now in
    let rows = c.args.rows.now in
    let same = c.as_slice.ensures ∙ item_read rows v.position c.index-rows-pivot.result [] c.requires.position c.index-rows-pivot.is in
    on_ok_weaker c.divide_line.result
    (λ divided. by_is v rows c.as_slice.result.now c.get.result same (c.get.ensures ∙ ap (λ (u : List ℚ). at u v.column) (sym c.as_slice.ensures)) c.divide_line.new.out
    (c.divide_line.auto.out ∙ sym c.requires.wide ∙ sym (ap (λ (u : List ℚ). length u) same)) divided)
    c.divide_line.ensures.divided
