-- Each step stores the next pair of the column, whose rows rise.
use Rattle.std.proofs.Common.{◌≡◌, ℕ, ◌<◌, ◌≤◌, List, Option, Some, length, sym, ap, ◌∙◌, subst, arith}
use Rattle.std.proofs.lemmas.List.{length-set, at_drop_all}
use Rattle.std.proofs.lemmas.Option.{get_or_from_slice_get}
use Rattle.sparse_cols.specs.Sparse.{IsRising}
use Rattle.sparse_cols.specs.Work.{value_in}
use Rattle.sparse_cols.proofs.Rows.{scattered, scattered-next, value_in-scattered}
use Rattle.sparse_cols.proofs.work.Work.scatter.Goals as goal

pub set-requires : goal.set-requires
set-requires g c = omega (arith, c.pair-i.ensures.row, c.loop-k.invariant.same_length, c.requires)

pub loop-k-preserved : goal.loop-k-preserved
loop-k-preserved g c =
    let ps = c.args.column.now.pairs in
    let k = c.loop-k.k in
    let p = c.pair-i.result in
    let lt : k < length ps = omega (arith, c.count-k-end.ensures.value) in
    let at = get_or_from_slice_get ps k p p c.pair-i.ensures.value in
    record {
      same_length = ap (λ (r : List (Option g.row.V.Denot)). length r) c.set.ensures ∙ length-set c.loop-k.self p.0 (Some p.1) ∙ c.loop-k.invariant.same_length;
      left = scattered-next ps c.loop-k.self c.set.new.self k p lt at c.set.ensures ∙ c.loop-k.invariant.left;
    }

pub returns-clause-values : goal.returns-clause-values
returns-clause-values g c = λ i.
    let column = c.args.column.now in
    let row = c.args.self.now in
    let le : length column.pairs ≤ c.loop-k.k = omega (arith, c.count-k-end.ensures.value, c.loop-k-test.false) in
    let whole : c.loop-k.self ≡ scattered column.pairs row = sym (at_drop_all (λ (ps : List (ℕ × g.row.V.Denot)). scattered ps c.loop-k.self) column.pairs c.loop-k.k le) ∙ c.loop-k.invariant.left in
    let rising = subst (λ (n : ℕ). IsRising n 0 column.pairs) (sym c.requires) c.count-k-end.ensures.rising in
    ap (λ (r : List (Option g.row.V.Denot)). value_in r i) whole ∙ value_in-scattered 0 column.pairs row rising i
