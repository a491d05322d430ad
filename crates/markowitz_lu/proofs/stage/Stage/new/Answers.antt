-- All is as it is at the beginning.
use Rattle.markowitz_lu.specs.declared.stage.Stage.{Stage}
use Rattle.markowitz_lu.proofs.Begins.{begun}
use Rattle.markowitz_lu.proofs.stage.Stage.new.Goals as goal

pub returns : goal.returns
returns c =
    let s : Stage = record {
      cross = c.in_ok-cross.cross;
      columns = c.in_ok-made.made;
      rows = c.in_ok-rows.rows;
      order = c.in_ok-order.order;
      left = c.in_ok-left.left;
      etas = c.new-etas.result;
    } in
    begun c.args.m c.args.columns.now c.requires.stored s c.in_ok-cross.ensures.size c.in_ok-cross.ensures.cols c.in_ok-cross.ensures.active_rows c.in_ok-cross.ensures.active_cols
    c.in_ok-cross.ensures.matrix c.in_ok-made.ensures.count c.in_ok-made.ensures.empty c.in_ok-rows.ensures c.in_ok-order.ensures.order c.in_ok-left.ensures c.new-etas.ensures
