-- The rows are below the length.
use Rattle.std.proofs.Common.{◌<◌, ap, length, arith}
use Rattle.sparse_cols.specs.Sparse.{Sparse}
use Rattle.sparse_cols.proofs.Pairs.{row_below}
use Rattle.sparse_cols.proofs.SparseCol.pair.Goals as goal

pub returns-clause-row : goal.returns-clause-row
returns-clause-row g c =
    let ps = c.self.inside.pairs.items in
    let p = c.index.result.now in
    let sees = c.self.view_is in
    let within : c.args.k < length ps = omega (arith, c.requires, ap (λ (s : Sparse g.row.V.Denot). length s.pairs) sees) in
    omega (arith, row_below c.self.inside.len 0 ps c.self.invariant c.args.k p within, ap (λ (q : _). q.0) c.index.ensures, ap (λ (s : Sparse g.row.V.Denot). s.length) sees)
