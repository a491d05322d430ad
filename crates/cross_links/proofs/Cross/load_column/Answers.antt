-- Each pair goes behind those before it.
use Rattle.std.proofs.Common.{ℕ, ◌<◌, List, [], ◌∷◌, ◌++◌, length, map, refl, true, false, ap, ◌∙◌, arith}
use Rattle.std.proofs.lemmas.List.{get_or-replicate}
use Rattle.rational.specs.Rational.{ℚ}
use Rattle.sparse_cols.specs.Sparse.{value_at}
use Rattle.cross_links.specs.Matrix.{Entry, entry_at, pair_in}
use Rattle.cross_links.proofs.Loads.{absent_before, absent_from, col_other, pairs_other, pairs_filled, take_pair}
use Rattle.cross_links.proofs.Cross.load_column.Goals as goal

pub loop-k-init : goal.loop-k-init
loop-k-init c = record {
  size = refl;
  pairs = ap (map (λ l. pair_in (entry_at c.args.self.now l))) c.requires.empty;
  others = λ d ne. refl;
  other_pairs = λ d ne. refl;
  active_rows = refl;
  active_cols = refl;
  matrix = c.requires.matrix;
}

pub fill-requires-clause-row : goal.fill-requires-clause-row
fill-requires-clause-row c = omega (arith, c.pair-r.ensures.row, c.requires.rows, c.loop-k.invariant.size)

pub fill-requires-clause-active_row : goal.fill-requires-clause-active_row
fill-requires-clause-active_row c =
    let lt : c.pair-r.result.0 < c.args.self.now.size = omega (arith, c.pair-r.ensures.row, c.requires.rows) in
    rw (c.loop-k.invariant.active_rows, c.requires.active_rows) (get_or-replicate c.args.self.now.size c.pair-r.result.0 true false lt)

pub fill-requires-clause-absent : goal.fill-requires-clause-absent
fill-requires-clause-absent c =
    let ps = c.args.column.now.pairs in
    absent_from c.loop-k.self c.args.c c.pair-r.result.0 c.loop-k.invariant.matrix
    (ap (λ (q : List (ℕ × ℚ)). value_at q c.pair-r.result.0) c.loop-k.invariant.pairs
    ∙ absent_before c.args.column.now.length 0 ps c.loop-k.k c.pair-r.result c.count-k-end.ensures.rising c.pair-r.ensures.value)

pub loop-k-preserved : goal.loop-k-preserved
loop-k-preserved c =
    let ps = c.args.column.now.pairs in
    let a = c.loop-k.self in
    let b = c.fill.new.self in
    let link = c.in_ok-fill.field-0 in
    let e : Entry = (c.pair-r.result.0, c.args.c, c.pair-r.result.1) in
    let inv = c.loop-k.invariant in
    let filled = c.in_ok-fill.ensures.ok in
    let lt : c.args.c < length a.cols = omega (arith, inv.matrix.cols.lines_len, inv.size, c.requires.col) in
    record {
      size = filled.size ∙ inv.size;
      pairs = pairs_filled a b link e inv.matrix filled lt ∙ ap (λ (q : List (ℕ × ℚ)). q ++ c.pair-r.result ∷ []) inv.pairs ∙ take_pair ps c.loop-k.k c.pair-r.result c.pair-r.ensures.value;
      others = λ d ne. col_other a b link e inv.matrix filled d ne ∙ inv.others d ne;
      other_pairs = λ d ne. pairs_other a b link e inv.matrix filled d ne ∙ inv.other_pairs d ne;
      active_rows = filled.active_rows ∙ inv.active_rows;
      active_cols = filled.active_cols ∙ inv.active_cols;
      matrix = c.in_ok-fill.ensures.matrix;
    }
