use Rattle.std.proofs.Common.{◌<◌, Ok, length, arith}
use Rattle.lp_model.specs.Deck.{no_row}
use Rattle.deck_tools.specs.Layout.{kind_word, row_line}
use Rattle.deck_tools.proofs.Pages.{Makes-next_line, Makes-stopped_line}
use Rattle.deck_tools.proofs.write.put_each_row.Goals as goal

pub loop-row-preserved : goal.loop-row-preserved
loop-row-preserved c =
    let d = c.args.deck.now in
    let within : c.loop-row.row < length d.rows = omega arith in
    Makes-next_line (λ r. row_line (kind_word r.kind) r.name) d.rows no_row c.loop-row.row within {r = Ok tt} c.loop-row.invariant
    (rw (c.kind_word.ensures, c.row_kind.ensures, c.bytes.ensures, c.row_name.ensures) at c.in_ok-put_row.ensures)

pub returns-in_err-put_row : goal.returns-in_err-put_row
returns-in_err-put_row c =
    let d = c.args.deck.now in
    let within : c.loop-row.row < length d.rows = omega arith in
    Makes-stopped_line (λ r. row_line (kind_word r.kind) r.name) d.rows no_row c.loop-row.row within c.loop-row.invariant
    (rw (c.kind_word.ensures, c.row_kind.ensures, c.bytes.ensures, c.row_name.ensures) at c.in_err-put_row.ensures) c.from_residual.ensures.1
