-- A row without a value has a gap, and the pair goes there.
use Rattle.std.proofs.Common.{◌≡◌, ℕ, ◌<◌, None, sym, ◌∙◌, refl, subst, arith}
use Rattle.sparse_cols.specs.Sparse.{Sparse, IsRising, insert_pair, value_at, IsGapFor}
use Rattle.sparse_cols.proofs.Pairs.{value_at-found, insert_pair-gap, IsRising-insert_pair}
use Rattle.sparse_cols.proofs.SparseCol.insert.Goals as goal
use Rattle.sparse_cols.proofs.SparseCol.insert.Goals.{In_ok-insert-in-Err}

pub unreachable-requires : goal.unreachable-requires
unreachable-requires g c =
    let column = c.args.self.now in
    let rising = subst (λ (v : Sparse g.row.V.Denot). IsRising v.length 0 v.pairs) c.self.view_is c.self.invariant in
    let here = c.in-Ok.ensures.found in
    let d : ℕ × g.row.V.Denot = (c.args.i, c.args.v) in
    let found = value_at-found column.length 0 column.pairs rising c.args.i c.in-Ok.field-0 d here.in_range (here.has_row d) in
    let absent = c.requires.absent in
    cc

stored : (g : _) (c : In_ok-insert-in-Err g) → c.insert.new.self.items ≡ insert_pair c.args.i c.args.v c.self.inside.pairs.items
stored g c =
    let gap = subst (λ (v : Sparse g.row.V.Denot). IsGapFor v.pairs c.args.i c.in-Err.k) (sym c.self.view_is) c.in-Err.ensures.absent in
    c.in_ok-insert-in-Err.ensures.items ∙ sym (insert_pair-gap c.self.inside.pairs.items c.args.i c.in-Err.k c.args.v gap)

pub invariant_of-self-in-Err : goal.invariant_of-self-in-Err
invariant_of-self-in-Err g c =
    let within = subst (λ (v : Sparse g.row.V.Denot). c.args.i < v.length) (sym c.self.view_is) c.requires.within in
    let absent = subst (λ (v : Sparse g.row.V.Denot). value_at v.pairs c.args.i ≡ None) (sym c.self.view_is) c.requires.absent in
    rw (stored g c) (IsRising-insert_pair c.self.inside.len 0 c.self.inside.pairs.items c.args.i c.args.v c.self.invariant (omega arith) within absent)

pub returns-clause-ok : goal.returns-clause-ok
returns-clause-ok g c = rw (stored g c, ← c.self.view_is) refl
