-- No row has more entries than there are columns.
use Rattle.std.proofs.Common.{inl, arith}
use Rattle.cross_links.specs.Matrix.{row_of}
use Rattle.cross_links.specs.Held.{matrix_of}
use Rattle.cross_links.proofs.Entries.{row_count_le}
use Rattle.cross_links.proofs.pivot.best_by_count.Goals as goal

pub returns-clause-covers : goal.returns-clause-covers
returns-clause-covers c = λ k some.
    let a = matrix_of c.args.table.now in
    let most = row_count_le a c.requires.held.matrix (row_of a k) in
    c.loop-count.invariant.covers k some (inl (omega (arith, most)))
