-- Each column is put in where nothing stands yet.
use Rattle.std.proofs.Common.{◌≡◌, ◌≢◌, ℕ, ◌<◌, ◌≤◌, [], map, get_or, sym, ap, ◌∙◌, ⊎_elim, arith}
use Rattle.std.proofs.lemmas.Bool.{cases_eq, cases_lt}
use Rattle.cross_links.specs.Matrix.{col_pairs, pair_in, entry_at}
use Rattle.cross_links.proofs.Loads.{lists_of, column_pairs, no_column}
use Rattle.cross_links.proofs.Cross.load.Goals as goal

pub loop-c-preserved : goal.loop-c-preserved
loop-c-preserved c =
    let columns = c.args.columns.now in
    let i = c.loop-c.c in
    let column = c.index-columns-c.result in
    let loaded = c.in_ok-load_column.ensures in
    let inv = c.loop-c.invariant in
    record {
      size = loaded.size ∙ inv.size;
      done = λ j lt. ⊎_elim
          (λ (e : j ≡ i). ap (col_pairs c.load_column.new.self) e ∙ loaded.col ∙ sym
          (column_pairs columns i column (omega (arith, c.requires.columns)) c.index-columns-c.is) ∙ ap (λ (k : ℕ). get_or (lists_of columns) k []) (sym e))
          (λ (ne : j ≢ i). loaded.pairs j ne ∙ inv.done j (omega arith))
          (cases_eq j i);
      left = λ j le. let ne : j ≢ i = λ e. omega arith in loaded.others j ne ∙ inv.left j (omega arith);
      active_rows = loaded.active_rows ∙ inv.active_rows;
      active_cols = loaded.active_cols ∙ inv.active_cols;
      matrix = loaded.matrix;
    }

pub returns-clause-cols : goal.returns-clause-cols
returns-clause-cols c = λ j.
    let columns = c.args.columns.now in
    let inv = c.loop-c.invariant in
    ⊎_elim
    (λ (lt : j < c.args.m). inv.done j (omega arith))
    (λ (le : c.args.m ≤ j). ap (map (λ l. pair_in (entry_at c.loop-c.cross l))) (inv.left j (omega arith)) ∙ sym (no_column columns j (omega (arith, c.requires.columns))))
    (cases_lt j c.args.m)
