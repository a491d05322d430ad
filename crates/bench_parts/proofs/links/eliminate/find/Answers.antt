-- The row is followed to its end.
use Rattle.std.proofs.Common.{◌≡◌, ◌≢◌, ℕ, sym, ap, ◌∙◌}
use Rattle.chain_links.specs.Lists.{after}
use Rattle.cross_links.specs.Matrix.{row, col_of, col_in}
use Rattle.cross_links.proofs.Search.{Walked-first, Walked-more, walked_in, walked_shorter}
use Rattle.bench_parts.proofs.links.eliminate.find.Goals as goal

pub entries-init : goal.entries-init
entries-init c =
    Walked-first (row c.args.cross.now c.args.r) c.row_first-next.result (λ k. col_of c.args.cross.now k ≢ c.args.c) c.row_first-next.ensures.first

pub entry-at-requires : goal.entry-at-requires
entry-at-requires c =
    (c.requires.matrix.rows.only c.args.r c.in-Some.link (walked_in _ _ _ c.entries.invariant c.in-Some.link c.in-Some.is)).0

pub entries-smaller : goal.entries-smaller
entries-smaller c =
    let a = c.args.cross.now in
    let held = walked_in _ _ _ c.entries.invariant c.in-Some.link c.in-Some.is in
    let here = (c.requires.matrix.rows.only c.args.r c.in-Some.link held).1 in
    walked_shorter _ _ _ c.entries.invariant c.in-Some.link c.in-Some.is c.row_next-next.result (c.requires.matrix.rows.once c.args.r)
    (c.row_next-next.ensures.next ∙ ap (λ (r : ℕ). after c.in-Some.link (row a r)) here)

pub entries-preserved : goal.entries-preserved
entries-preserved c =
    let a = c.args.cross.now in
    let held = walked_in _ _ _ c.entries.invariant c.in-Some.link c.in-Some.is in
    let here = (c.requires.matrix.rows.only c.args.r c.in-Some.link held).1 in
    Walked-more _ _ _ c.entries.invariant c.in-Some.link c.in-Some.is c.row_next-next.result (λ k. col_of a k ≢ c.args.c) (c.requires.matrix.rows.once c.args.r)
    (c.row_next-next.ensures.next ∙ ap (λ (r : ℕ). after c.in-Some.link (row a r)) here)
    (λ k ne. ne)
    (λ (e : col_of a c.in-Some.link ≡ c.args.c). c.if-at-c.false (sym (ap col_in c.entry-at.ensures.entry) ∙ e))
