-- The pairs are sorted, so that a row that stands twice has them side by side.
use Rattle.std.proofs.Common.{◌≡◌, ℕ, List, None, Some, sym, subst, rules}
use Rattle.std.proofs.lemmas.List.Sorted.{IsNonDecreasingBy-from_sort_by_key}
use Rattle.sparse_cols.specs.Fault.{first_beyond, first_repeated}
use Rattle.sparse_cols.proofs.Repeats.{repeated, rising}
use Rattle.sparse_cols.proofs.SparseCol.from_pairs.Goals as goal

pub invariant_of-result : goal.invariant_of-result
invariant_of-result g c =
    let ys = c.sort_unstable_by_key.new.self.items in
    let up = IsNonDecreasingBy-from_sort_by_key (λ p. p.0) ys c.sort_unstable_by_key.ensures.sorted (λ a r q k. search rules) in
    let within = subst (λ (ps : List (ℕ × g.row.V.Denot)). None ≡ first_beyond c.args.len ps) c.deref.ensures.value c.in_default.ensures in
    let once = subst (λ (ps : List (ℕ × g.row.V.Denot)). None ≡ first_repeated ps) c.deref-2.ensures.value c.in-None.ensures in
    rising c.args.len c.args.pairs.items ys (sym within) c.sort_unstable_by_key.ensures.permutation up (sym once)

pub returns-in-None-clause-rising : goal.returns-in-None-clause-rising
returns-in-None-clause-rising g c = invariant_of-result g c

pub returns-in-Some-first_repeated-clause-fault : goal.returns-in-Some-first_repeated-clause-fault
returns-in-Some-first_repeated-clause-fault g c =
    let ys = c.sort_unstable_by_key.new.self.items in
    let up = IsNonDecreasingBy-from_sort_by_key (λ p. p.0) ys c.sort_unstable_by_key.ensures.sorted (λ a r q k. search rules) in
    let within = subst (λ (ps : List (ℕ × g.row.V.Denot)). None ≡ first_beyond c.args.len ps) c.deref.ensures.value c.in_default.ensures in
    let twice = subst (λ (ps : List (ℕ × g.row.V.Denot)). Some c.in-Some-first_repeated.i ≡ first_repeated ps) c.deref-2.ensures.value c.in-Some-first_repeated.ensures in
    (sym within, repeated c.args.pairs.items ys c.in-Some-first_repeated.i c.sort_unstable_by_key.ensures.permutation up (sym twice))
