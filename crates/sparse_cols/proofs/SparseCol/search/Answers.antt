-- The closure gives a pair's row, and the slice is the column's pairs.
use Rattle.std.proofs.Common.{rules}
use Rattle.std.proofs.lemmas.List.Sorted.{answers_always}
use Rattle.sparse_cols.proofs.Pairs.{searched}
use Rattle.sparse_cols.proofs.SparseCol.search.Goals as goal

pub returns : goal.returns
returns g c =
    let facts = c.binary_search_by_key.ensures in
    let by_row = facts.position (λ pair. pair.0) (answers_always _ _ _ (λ f a r g called. search rules)) in
    rw (← c.self.view_is, ← c.deref.ensures.value) (searched c.self.inside.len 0 c.deref.result.now
    (rw c.deref.ensures.value c.self.invariant) c.args.i c.binary_search_by_key.result facts.bound by_row)
