-- The bucket is followed to its end.
use Rattle.std.proofs.Common.{ℕ, arith}
use Rattle.std.specs.List.{Contains}
use Rattle.count_chain.specs.Chains.{list_at}
use Rattle.cross_links.specs.Matrix.{row, row_of}
use Rattle.cross_links.specs.Sides.{Covers}
use Rattle.cross_links.specs.Held.{matrix_of}
use Rattle.cross_links.proofs.Search.{Walked-first, Walked-more, walked_in, walked_shorter, walked_all, bucket_row, in_its_row, row_in_bucket}
use Rattle.cross_links.proofs.pivot.best_of_rows.Goals as goal

pub first-next-requires : goal.first-next-requires
first-next-requires c =
    omega (arith, c.requires.held.rows.bucketed.lists, c.requires.held.matrix.rows.lines_len)

pub bucket-init : goal.bucket-init
bucket-init c =
    let a = matrix_of c.args.table.now in
    record {
      link = c.requires.link;
      walked = Walked-first (list_at c.args.table.now.rows.buckets c.args.count) c.first-next.result (λ i. (k : ℕ) → Contains (row a i) k → Covers a c.args.best k) c.first-next.ensures.first;
      kept = λ k h. h;
    }

pub best_in_row-best-requires-clause-row : goal.best_in_row-best-requires-clause-row
best_in_row-best-requires-clause-row c =
    bucket_row c.args.table.now c.requires.held c.args.count c.in-Some.r (walked_in _ _ _ c.bucket.invariant.walked c.in-Some.r c.in-Some.is)

pub bucket-smaller : goal.bucket-smaller
bucket-smaller c =
    let held = walked_in _ _ _ c.bucket.invariant.walked c.in-Some.r c.in-Some.is in
    walked_shorter _ _ _ c.bucket.invariant.walked c.in-Some.r c.in-Some.is c.next-next.result (c.first-next.ensures.chained.once c.args.count) (c.next-next.ensures.next c.args.count held)

pub bucket-preserved : goal.bucket-preserved
bucket-preserved c =
    let a = matrix_of c.args.table.now in
    let held = walked_in _ _ _ c.bucket.invariant.walked c.in-Some.r c.in-Some.is in
    let found = c.best_in_row-best.ensures in
    record {
      link = found.link;
      walked = Walked-more _ _ _ c.bucket.invariant.walked c.in-Some.r c.in-Some.is c.next-next.result
          (λ i. (k : ℕ) → Contains (row a i) k → Covers a c.best_in_row-best.result k) (c.first-next.ensures.chained.once c.args.count)
          (c.next-next.ensures.next c.args.count held) (λ i all k in_i. found.kept k (all k in_i)) found.covers;
      kept = λ k h. found.kept k (c.bucket.invariant.kept k h);
    }

pub returns-clause-covers : goal.returns-clause-covers
returns-clause-covers c = λ k some is.
    let t = c.args.table.now in
    walked_all _ _ _ c.bucket.invariant.walked c.in_default.is (row_of (matrix_of t) k) (row_in_bucket t c.requires.held k some c.args.count is) k (in_its_row t c.requires.held k some)
