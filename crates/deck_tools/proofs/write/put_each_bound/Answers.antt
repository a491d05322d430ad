use Rattle.std.proofs.Common.{◌<◌, Ok, length, arith}
use Rattle.lp_model.specs.Deck.{no_column}
use Rattle.deck_tools.specs.Layout.{bound_lines}
use Rattle.deck_tools.proofs.Pages.{Makes-all, Makes-next, Makes-stopped}
use Rattle.deck_tools.proofs.write.put_each_bound.Goals as goal

pub loop-column-preserved : goal.loop-column-preserved
loop-column-preserved c =
    let d = c.args.deck.now in
    let within : c.loop-column.column < length d.columns = omega arith in
    Makes-next (bound_lines) d.columns no_column c.loop-column.column within {r = Ok tt} c.loop-column.invariant c.in_ok-put_bounds_of.ensures

pub returns-in_err-put_bounds_of : goal.returns-in_err-put_bounds_of
returns-in_err-put_bounds_of c =
    let d = c.args.deck.now in
    let within : c.loop-column.column < length d.columns = omega arith in
    Makes-stopped (bound_lines) d.columns no_column c.loop-column.column within c.loop-column.invariant c.in_err-put_bounds_of.ensures c.from_residual.ensures.1

pub returns : goal.returns
returns c = let d = c.args.deck.now in Makes-all (bound_lines) d.columns c.loop-column.column (omega arith) c.loop-column.invariant
