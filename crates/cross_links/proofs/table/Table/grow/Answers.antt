-- The links that are made are free, and the lists stay.
use Rattle.std.proofs.Common.{ℕ, ap, ◌∙◌, subst, refl, arith}
use Rattle.count_chain.specs.Chains.{Chains}
use Rattle.cross_links.specs.Matrix.{at_link}
use Rattle.cross_links.specs.Sides.{AreFree}
use Rattle.cross_links.proofs.Buckets.{IsKept-grown}
use Rattle.cross_links.proofs.Tables.{IsHeld-grown}
use Rattle.cross_links.proofs.table.Table.grow.Goals as goal

pub returns-clause-held : goal.returns-clause-held
returns-clause-held g c =
    let t = c.args.self.now in
    let h = c.requires.held in
    let total = c.in_ok-total.total in
    IsHeld-grown t _ total h c.requires.full refl c.in_ok-entries.ensures.len (λ l. c.in_ok-entries.ensures.same l
    ∙ ap (λ es. at_link es l) c.deref.ensures.value) c.in_ok-total.ensures.most
    (subst (λ (n : ℕ). AreFree n total total c.in_ok-free.free) (omega (arith, c.len-links.ensures, t.entries.ok.0)) c.in_ok-free.ensures)
    c.in_ok-by_row.ensures.grown refl
    (IsKept-grown t.rows _ h.rows (ap (λ (x : Chains). x.lists) c.in_ok-by_row.ensures.grown) c.in_ok-by_row.ensures.chained refl refl refl)
    c.in_ok-by_col.ensures.grown refl
    (IsKept-grown t.cols _ h.cols (ap (λ (x : Chains). x.lists) c.in_ok-by_col.ensures.grown) c.in_ok-by_col.ensures.chained refl refl refl)
