-- The row stands at the place that the search found, and its pair goes, or it stands nowhere.
use Rattle.std.proofs.Common.{◌≡◌, ℕ, Some, sym, ap, ◌∙◌, refl, subst}
use Rattle.sparse_cols.specs.Sparse.{Sparse, IsAt, remove_row}
use Rattle.sparse_cols.proofs.Pairs.{value_at-found, value_at-gap, remove_row-found, remove_row-absent, IsRising-remove_row}
use Rattle.sparse_cols.proofs.SparseCol.remove.Goals as goal

pub invariant_of-self : goal.invariant_of-self
invariant_of-self g c =
    let ps = c.self.inside.pairs.items in
    let here = subst (λ (v : Sparse g.row.V.Denot). IsAt v.pairs c.args.i c.in-Ok.k) (sym c.self.view_is) c.in-Ok.ensures.found in
    let d = c.remove.result in
    let gone : c.remove.new.self.items ≡ remove_row c.args.i ps = c.remove.ensures.items
    ∙ sym (remove_row-found c.self.inside.len 0 ps c.self.invariant c.args.i c.in-Ok.k d here.in_range (here.has_row d)) in
    rw gone (IsRising-remove_row c.self.inside.len 0 ps c.args.i c.self.invariant)

pub returns-in-Ok-clause-value : goal.returns-in-Ok-clause-value
returns-in-Ok-clause-value g c =
    let ps = c.self.inside.pairs.items in
    let here = subst (λ (v : Sparse g.row.V.Denot). IsAt v.pairs c.args.i c.in-Ok.k) (sym c.self.view_is) c.in-Ok.ensures.found in
    let d = c.remove.result in
    ap (λ (p : ℕ × g.row.V.Denot). Some p.1) c.remove.ensures.value ∙ rw (← c.self.view_is)
    (sym (value_at-found c.self.inside.len 0 ps c.self.invariant c.args.i c.in-Ok.k d here.in_range (here.has_row d)))

pub returns-in-Ok-clause-rest : goal.returns-in-Ok-clause-rest
returns-in-Ok-clause-rest g c =
    let ps = c.self.inside.pairs.items in
    let here = subst (λ (v : Sparse g.row.V.Denot). IsAt v.pairs c.args.i c.in-Ok.k) (sym c.self.view_is) c.in-Ok.ensures.found in
    let d = c.remove.result in
    let gone : c.remove.new.self.items ≡ remove_row c.args.i ps = c.remove.ensures.items
    ∙ sym (remove_row-found c.self.inside.len 0 ps c.self.invariant c.args.i c.in-Ok.k d here.in_range (here.has_row d)) in
    rw (gone, ← c.self.view_is) refl

pub returns-in-Err-clause-value : goal.returns-in-Err-clause-value
returns-in-Err-clause-value g c = sym (value_at-gap c.args.self.now.pairs c.args.i c.in-Err.field-0 c.in-Err.ensures.absent)

pub returns-in-Err-clause-rest : goal.returns-in-Err-clause-rest
returns-in-Err-clause-rest g c =
    rw (remove_row-absent c.args.self.now.pairs c.args.i (value_at-gap c.args.self.now.pairs c.args.i c.in-Err.field-0 c.in-Err.ensures.absent)) refl
