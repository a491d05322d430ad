-- Each link of the row is put at its column.
use Rattle.std.proofs.Common.{◌≡◌, ℕ, Some, None, length, ap, ◌∙◌, length-set, arith}
use Rattle.std.proofs.lemmas.List.{length-replicate}
use Rattle.chain_links.specs.Lists.{after}
use Rattle.cross_links.specs.Matrix.{row, col_of, col_in}
use Rattle.cross_links.proofs.Search.{Walked-first, Walked-more, walked_in, walked_shorter}
use Rattle.markowitz_lu.proofs.Indexes.{IsMet, only-none, met-now, met-more, only-more}
use Rattle.markowitz_lu.proofs.lines.index_row.Goals as goal

pub loop-next-init : goal.loop-next-init
loop-next-init c =
    let a = c.args.cross.now in
    record {
      len = ap length c.requires.none ∙ length-replicate a.size None;
      walked = Walked-first (row a c.args.i) c.row_first-next.result (IsMet a c.args.index.now) c.row_first-next.ensures.first;
      only = only-none a c.args.i a.size c.args.index.now c.requires.none;
    }

pub row_next-next-requires : goal.row_next-next-requires
row_next-next-requires c =
    (c.row_first-next.ensures.matrix.rows.only c.args.i c.in-Some.link (walked_in _ _ _ c.loop-next.invariant.walked c.in-Some.link c.in-Some.is)).0

pub entry-p-requires : goal.entry-p-requires
entry-p-requires c =
    (c.row_first-next.ensures.matrix.rows.only c.args.i c.in-Some.link (walked_in _ _ _ c.loop-next.invariant.walked c.in-Some.link c.in-Some.is)).0

pub loop-next-smaller : goal.loop-next-smaller
loop-next-smaller c =
    let a = c.args.cross.now in
    let m = c.row_first-next.ensures.matrix in
    let l = c.in-Some.link in
    let held = walked_in _ _ _ c.loop-next.invariant.walked l c.in-Some.is in
    let behind : c.row_next-next.result ≡ after l (row a c.args.i) = c.row_next-next.ensures.next ∙ ap (λ (n : ℕ). after l (row a n)) (m.rows.only c.args.i l held).1 in
    walked_shorter _ _ _ c.loop-next.invariant.walked l c.in-Some.is c.row_next-next.result (m.rows.once c.args.i) behind

pub loop-next-preserved : goal.loop-next-preserved
loop-next-preserved c =
    let a = c.args.cross.now in
    let m = c.row_first-next.ensures.matrix in
    let l = c.in-Some.link in
    let i = c.args.i in
    let held = walked_in _ _ _ c.loop-next.invariant.walked l c.in-Some.is in
    let behind : c.row_next-next.result ≡ after l (row a i) = c.row_next-next.ensures.next ∙ ap (λ (n : ℕ). after l (row a n)) (m.rows.only i l held).1 in
    let in_col : col_of a l ≡ c.entry-p.result.1 = ap col_in c.entry-p.ensures.entry in
    let link = m.rows.only i l held in
    let only = c.loop-next.invariant.only in
    record {
      len = ap length c.set.ensures ∙ length-set c.loop-next.index c.entry-p.result.1 (Some l) ∙ c.loop-next.invariant.len;
      walked = Walked-more (row a i) c.loop-next.next (IsMet a c.loop-next.index) c.loop-next.invariant.walked l c.in-Some.is c.row_next-next.result (IsMet a c.set.new.self)
          (m.rows.once i) behind (λ k met. met-more a m i l c.entry-p.result.1 link.0 link.1 in_col c.loop-next.index c.set.new.self (omega (arith, c.loop-next.invariant.len, c.entry-p.ensures.col))
          c.set.ensures only k met)
          (met-now a m i l c.entry-p.result.1 link.0 link.1 in_col c.loop-next.index c.set.new.self (omega (arith, c.loop-next.invariant.len, c.entry-p.ensures.col)) c.set.ensures);
      only = only-more a m i l c.entry-p.result.1 link.0 link.1 in_col c.loop-next.index c.set.new.self (omega (arith, c.loop-next.invariant.len, c.entry-p.ensures.col)) c.set.ensures only;
    }
