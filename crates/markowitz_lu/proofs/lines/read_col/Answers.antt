-- Each link of the column is read in its turn.
use Rattle.std.proofs.Common.{◌≡◌, ℕ, ◌++◌, List, map, sym, ap, ◌∙◌}
use Rattle.chain_links.specs.Lists.{rest, after}
use Rattle.rational.specs.Rational.{ℚ}
use Rattle.cross_links.specs.Matrix.{col, col_pairs, entry_at, pair_in}
use Rattle.markowitz_lu.proofs.Walks.{first_in, first_left, link_in, next_in, next_shorter, read_on}
use Rattle.markowitz_lu.proofs.lines.read_col.Goals as goal

pub loop-next-init : goal.loop-next-init
loop-next-init c =
    let a = c.args.cross.now in
    let xs = col a c.args.c in
    record {
      next_in = first_in xs c.col_first-next.result c.col_first-next.ensures.first;
      read =
          ap (λ (read : List (ℕ × ℚ)). read ++ map (λ k. pair_in (entry_at a k)) (rest c.col_first-next.result xs)) c.clear.ensures.items
          ∙ ap (map (λ k. pair_in (entry_at a k))) (first_left xs c.col_first-next.result c.col_first-next.ensures.first);
    }

pub col_next-next-requires : goal.col_next-next-requires
col_next-next-requires c =
    let a = c.args.cross.now in
    (c.col_first-next.ensures.matrix.cols.only c.args.c c.in-Some.link (link_in (col a c.args.c) c.loop-next.next c.in-Some.link c.in-Some.is c.loop-next.invariant.next_in)).0

pub entry-i-requires : goal.entry-i-requires
entry-i-requires c =
    let a = c.args.cross.now in
    (c.col_first-next.ensures.matrix.cols.only c.args.c c.in-Some.link (link_in (col a c.args.c) c.loop-next.next c.in-Some.link c.in-Some.is c.loop-next.invariant.next_in)).0

pub loop-next-smaller : goal.loop-next-smaller
loop-next-smaller c =
    let a = c.args.cross.now in
    let xs = col a c.args.c in
    let l = c.in-Some.link in
    let held = link_in xs c.loop-next.next l c.in-Some.is c.loop-next.invariant.next_in in
    let behind : c.col_next-next.result ≡ after l xs =
    c.col_next-next.ensures.next ∙ ap (λ (n : ℕ). after l (col a n)) (c.col_first-next.ensures.matrix.cols.only c.args.c l held).1 in
    next_shorter xs c.loop-next.next l c.in-Some.is c.loop-next.invariant.next_in (c.col_first-next.ensures.matrix.cols.once c.args.c) c.col_next-next.result behind

pub loop-next-preserved : goal.loop-next-preserved
loop-next-preserved c =
    let a = c.args.cross.now in
    let xs = col a c.args.c in
    let l = c.in-Some.link in
    let held = link_in xs c.loop-next.next l c.in-Some.is c.loop-next.invariant.next_in in
    let once = c.col_first-next.ensures.matrix.cols.once c.args.c in
    let behind : c.col_next-next.result ≡ after l xs =
    c.col_next-next.ensures.next ∙ ap (λ (n : ℕ). after l (col a n)) (c.col_first-next.ensures.matrix.cols.only c.args.c l held).1 in
    let pair : ℕ × ℚ = (c.entry-i.result.0, c.entry-i.result.2) in
    let here : pair ≡ pair_in (entry_at a l) = sym (ap pair_in c.entry-i.ensures.entry) in
    record {
      next_in = next_in xs c.loop-next.next l c.in-Some.is c.loop-next.invariant.next_in once c.col_next-next.result behind;
      read =
          ap (λ (read : List (ℕ × ℚ)). read ++ map (λ k. pair_in (entry_at a k)) (rest c.col_next-next.result xs)) c.in_ok-push.ensures.items
          ∙ read_on xs c.loop-next.next l c.in-Some.is c.loop-next.invariant.next_in once c.col_next-next.result behind (λ k. pair_in (entry_at a k)) pair
          c.loop-next.buffer.items (col_pairs a c.args.c) here c.loop-next.invariant.read;
    }
