-- The row stands at the place that the search found, or nowhere.
use Rattle.std.proofs.Common.{ℕ, Some, get_or, sym, ap, ◌∙◌, subst}
use Rattle.sparse_cols.specs.Sparse.{Sparse, IsRising}
use Rattle.sparse_cols.proofs.Pairs.{value_at-found, value_at-gap}
use Rattle.sparse_cols.proofs.SparseCol.get.Goals as goal

pub returns-in-Ok : goal.returns-in-Ok
returns-in-Ok g c =
    let column = c.args.self.now in
    let d = c.index.result.now in
    let k = c.in-Ok.k in
    let rising = subst (λ (v : Sparse g.row.V.Denot). IsRising v.length 0 v.pairs) c.self.view_is c.self.invariant in
    let here = c.in-Ok.ensures.found in
    ap (λ (p : ℕ × g.row.V.Denot). Some p.1) c.index.ensures ∙ ap (λ (v : Sparse g.row.V.Denot). Some (get_or v.pairs k d).1) c.self.view_is
    ∙ sym (value_at-found column.length 0 column.pairs rising c.args.i k d here.in_range (here.has_row d))

pub returns-in-Err : goal.returns-in-Err
returns-in-Err g c = sym (value_at-gap c.args.self.now.pairs c.args.i c.in-Err.field-0 c.in-Err.ensures.absent)
