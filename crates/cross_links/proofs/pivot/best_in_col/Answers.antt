-- The line is followed to its end.
use Rattle.std.proofs.Common.{arith}
use Rattle.cross_links.specs.Matrix.{col}
use Rattle.cross_links.specs.Sides.{Covers}
use Rattle.cross_links.specs.Held.{matrix_of}
use Rattle.cross_links.proofs.Search.{Walked-first, Walked-more, walked_in, walked_shorter, walked_all, col_link_below}
use Rattle.cross_links.proofs.pivot.best_in_col.Goals as goal

pub first-next-requires : goal.first-next-requires
first-next-requires c = omega (arith, c.requires.col, c.requires.held.matrix.cols.lines_len)

pub entries-init : goal.entries-init
entries-init c =
    let a = matrix_of c.args.table.now in
    record {
      link = c.requires.link;
      walked = Walked-first (col a c.args.c) c.first-next.result (Covers a c.args.best) c.first-next.ensures.first;
      kept = λ k h. h;
    }

pub better-best-requires-clause-link : goal.better-best-requires-clause-link
better-best-requires-clause-link c =
    (c.requires.held.matrix.cols.only c.args.c c.in-Some.link (walked_in _ _ _ c.entries.invariant.walked c.in-Some.link c.in-Some.is)).0

pub next-next-requires : goal.next-next-requires
next-next-requires c =
    col_link_below c.args.table.now c.requires.held c.in-Some.link (c.requires.held.matrix.cols.only c.args.c c.in-Some.link (walked_in _ _ _ c.entries.invariant.walked c.in-Some.link c.in-Some.is)).0

pub entries-smaller : goal.entries-smaller
entries-smaller c =
    let held = walked_in _ _ _ c.entries.invariant.walked c.in-Some.link c.in-Some.is in
    walked_shorter _ _ _ c.entries.invariant.walked c.in-Some.link c.in-Some.is c.next-next.result (c.requires.held.matrix.cols.once c.args.c) (c.next-next.ensures.next c.args.c held)

pub entries-preserved : goal.entries-preserved
entries-preserved c =
    let a = matrix_of c.args.table.now in
    let held = walked_in _ _ _ c.entries.invariant.walked c.in-Some.link c.in-Some.is in
    let found = c.better-best.ensures in
    record {
      link = found.link;
      walked = Walked-more _ _ _ c.entries.invariant.walked c.in-Some.link c.in-Some.is c.next-next.result (Covers a c.better-best.result)
          (c.requires.held.matrix.cols.once c.args.c) (c.next-next.ensures.next c.args.c held) (λ k h. found.kept k h) found.covers;
      kept = λ k h. found.kept k (c.entries.invariant.kept k h);
    }

pub returns-clause-covers : goal.returns-clause-covers
returns-clause-covers c = λ k held. walked_all _ _ _ c.entries.invariant.walked c.in_default.is k held
