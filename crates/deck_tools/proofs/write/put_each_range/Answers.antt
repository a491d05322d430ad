use Rattle.std.proofs.Common.{◌<◌, Ok, length, arith}
use Rattle.lp_model.specs.Deck.{no_row}
use Rattle.deck_tools.specs.Layout.{range_lines}
use Rattle.deck_tools.proofs.Pages.{Makes-all, Makes-next, Makes-stopped}
use Rattle.deck_tools.proofs.write.put_each_range.Goals as goal

pub loop-row-preserved : goal.loop-row-preserved
loop-row-preserved c =
    let d = c.args.deck.now in
    let within : c.loop-row.row < length d.rows = omega arith in
    Makes-next (range_lines) d.rows no_row c.loop-row.row within {r = Ok tt} c.loop-row.invariant c.in_ok-put_range.ensures

pub returns-in_err-put_range : goal.returns-in_err-put_range
returns-in_err-put_range c =
    let d = c.args.deck.now in
    let within : c.loop-row.row < length d.rows = omega arith in
    Makes-stopped (range_lines) d.rows no_row c.loop-row.row within c.loop-row.invariant c.in_err-put_range.ensures c.from_residual.ensures.1

pub returns : goal.returns
returns c = let d = c.args.deck.now in Makes-all (range_lines) d.rows c.loop-row.row (omega arith) c.loop-row.invariant
