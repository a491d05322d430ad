use Rattle.std.proofs.Common.{◌<◌, Ok, length, arith}
use Rattle.lp_model.specs.Deck.{no_row}
use Rattle.deck_tools.specs.Layout.{right_lines}
use Rattle.deck_tools.proofs.Pages.{Makes-all, Makes-next, Makes-stopped}
use Rattle.deck_tools.proofs.write.put_each_right.Goals as goal

pub loop-row-preserved : goal.loop-row-preserved
loop-row-preserved c =
    let d = c.args.deck.now in
    let within : c.loop-row.row < length d.rows = omega arith in
    Makes-next (right_lines) d.rows no_row c.loop-row.row within {r = Ok tt} c.loop-row.invariant c.in_ok-put_right.ensures

pub returns-in_err-put_right : goal.returns-in_err-put_right
returns-in_err-put_right c =
    let d = c.args.deck.now in
    let within : c.loop-row.row < length d.rows = omega arith in
    Makes-stopped (right_lines) d.rows no_row c.loop-row.row within c.loop-row.invariant c.in_err-put_right.ensures c.from_residual.ensures.1

pub returns : goal.returns
returns c = let d = c.args.deck.now in Makes-all (right_lines) d.rows c.loop-row.row (omega arith) c.loop-row.invariant
