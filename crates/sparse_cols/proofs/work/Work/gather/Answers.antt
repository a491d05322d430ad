-- At the loop's end the pairs are those of all rows.
use Rattle.std.proofs.Common.{◌≡◌, ℕ, ◌+◌, ◌≤◌, ◌++◌, List, length, sym, ap, ◌∙◌, subst, arith}
use Rattle.std.proofs.lemmas.List.{append-nil, at_drop_all}
use Rattle.sparse_cols.specs.Sparse.{IsRising}
use Rattle.sparse_cols.specs.Work.{gathered_from}
use Rattle.sparse_cols.proofs.Rows.{IsRising-gathered}
use Rattle.sparse_cols.proofs.work.Work.gather.Goals as goal

pub invariant_of-result : goal.invariant_of-result
invariant_of-result g c =
    let row = c.deref-value-items.result.now in
    let pairs = c.loop-i.pairs.items in
    let i = c.loop-i.i in
    let none = at_drop_all (gathered_from i) row i (omega (arith, c.loop-i-test.false)) in
    let all : pairs ≡ gathered_from 0 row = sym (append-nil pairs) ∙ ap (λ (ps : List (ℕ × g.row.V.Denot)). pairs ++ ps) (sym none) ∙ c.loop-i.invariant in
    let within : 0 + length row ≤ c.len-2.result = omega (arith, c.len-2.ensures, c.deref-value-items.ensures.len) in
    subst (λ (ps : List (ℕ × g.row.V.Denot)). IsRising c.len-2.result 0 ps) (sym all) (IsRising-gathered c.len-2.result 0 row within)
