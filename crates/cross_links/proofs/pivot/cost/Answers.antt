-- Both counts are at most the size.
use Rattle.std.proofs.Common.{◌-◌, arith}
use Rattle.cross_links.specs.Held.{matrix_of}
use Rattle.cross_links.proofs.Entries.{row_count_le, col_count_le}
use Rattle.cross_links.proofs.Search.{product_fits, row_count_is, col_count_is, entry_row_below, entry_col_below}
use Rattle.cross_links.proofs.pivot.cost.Goals as goal

pub overflow_mul-result : goal.overflow_mul-result
overflow_mul-result c =
    let t = c.args.table.now in
    let h = c.requires.held in
    let r = c.entry-r.result.0 in
    let d = c.entry-r.result.1 in
    let x = c.index.result.now in
    let y = c.index-2.result.now in
    let a = row_count_is t h r x (entry_row_below t h c.args.link c.requires.has c.entry-r.result c.entry-r.ensures) c.index.ensures in
    let b = col_count_is t h d y (entry_col_below t h c.args.link c.requires.has c.entry-r.result c.entry-r.ensures) c.index-2.ensures in
    omega (arith, product_fits t.size (x - 1) (y - 1) h.matrix.small (omega (arith, a, row_count_le (matrix_of t) h.matrix r)) (omega (arith, b, col_count_le (matrix_of t) h.matrix d)))
