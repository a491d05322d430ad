-- Each link of the row is read in its turn.
use Rattle.std.proofs.Common.{◌≡◌, ℕ, ◌++◌, List, map, sym, ap, ◌∙◌}
use Rattle.chain_links.specs.Lists.{rest, after}
use Rattle.rational.specs.Rational.{ℚ}
use Rattle.cross_links.specs.Matrix.{row, entry_at}
use Rattle.markowitz_lu.specs.Inner.Lines.{place_in, row_pairs}
use Rattle.markowitz_lu.proofs.Walks.{first_in, first_left, link_in, next_in, next_shorter, read_on}
use Rattle.markowitz_lu.proofs.lines.read_row.Goals as goal

pub loop-next-init : goal.loop-next-init
loop-next-init c =
    let a = c.args.cross.now in
    let xs = row a c.args.r in
    record {
      next_in = first_in xs c.row_first-next.result c.row_first-next.ensures.first;
      read =
          ap (λ (read : List (ℕ × ℚ)). read ++ map (λ k. place_in (entry_at a k)) (rest c.row_first-next.result xs)) c.clear.ensures.items
          ∙ ap (map (λ k. place_in (entry_at a k))) (first_left xs c.row_first-next.result c.row_first-next.ensures.first);
    }

pub row_next-next-requires : goal.row_next-next-requires
row_next-next-requires c =
    let a = c.args.cross.now in
    (c.row_first-next.ensures.matrix.rows.only c.args.r c.in-Some.link (link_in (row a c.args.r) c.loop-next.next c.in-Some.link c.in-Some.is c.loop-next.invariant.next_in)).0

pub entry-p-requires : goal.entry-p-requires
entry-p-requires c =
    let a = c.args.cross.now in
    (c.row_first-next.ensures.matrix.rows.only c.args.r c.in-Some.link (link_in (row a c.args.r) c.loop-next.next c.in-Some.link c.in-Some.is c.loop-next.invariant.next_in)).0

pub loop-next-smaller : goal.loop-next-smaller
loop-next-smaller c =
    let a = c.args.cross.now in
    let xs = row a c.args.r in
    let l = c.in-Some.link in
    let held = link_in xs c.loop-next.next l c.in-Some.is c.loop-next.invariant.next_in in
    let behind : c.row_next-next.result ≡ after l xs =
    c.row_next-next.ensures.next ∙ ap (λ (n : ℕ). after l (row a n)) (c.row_first-next.ensures.matrix.rows.only c.args.r l held).1 in
    next_shorter xs c.loop-next.next l c.in-Some.is c.loop-next.invariant.next_in (c.row_first-next.ensures.matrix.rows.once c.args.r) c.row_next-next.result behind

pub loop-next-preserved : goal.loop-next-preserved
loop-next-preserved c =
    let a = c.args.cross.now in
    let xs = row a c.args.r in
    let l = c.in-Some.link in
    let held = link_in xs c.loop-next.next l c.in-Some.is c.loop-next.invariant.next_in in
    let once = c.row_first-next.ensures.matrix.rows.once c.args.r in
    let behind : c.row_next-next.result ≡ after l xs =
    c.row_next-next.ensures.next ∙ ap (λ (n : ℕ). after l (row a n)) (c.row_first-next.ensures.matrix.rows.only c.args.r l held).1 in
    let pair : ℕ × ℚ = (c.entry-p.result.1, c.entry-p.result.2) in
    let here : pair ≡ place_in (entry_at a l) = sym (ap place_in c.entry-p.ensures.entry) in
    record {
      next_in = next_in xs c.loop-next.next l c.in-Some.is c.loop-next.invariant.next_in once c.row_next-next.result behind;
      read =
          ap (λ (read : List (ℕ × ℚ)). read ++ map (λ k. place_in (entry_at a k)) (rest c.row_next-next.result xs)) c.in_ok-push.ensures.items
          ∙ read_on xs c.loop-next.next l c.in-Some.is c.loop-next.invariant.next_in once c.row_next-next.result behind (λ k. place_in (entry_at a k)) pair
          c.loop-next.buffer.items (row_pairs a c.args.r) here c.loop-next.invariant.read;
    }
