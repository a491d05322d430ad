-- The pivot's own column gets its entry first, and then the others.
use Rattle.std.proofs.Common.{◌≡◌, ap, ◌∙◌, refl, length-set}
use Rattle.rational.specs.Rational.{ℚ}
use Rattle.sparse_cols.specs.Sparse.{Sparse, with_pair}
use Rattle.factor_model.specs.Edits.{column_in}
use Rattle.markowitz_lu.proofs.Storing.{column_read, others_open, kept_columns, kept_by}
use Rattle.markowitz_lu.proofs.stage.Stage.keep.Goals as goal

pub store_row-requires-clause-open_columns : goal.store_row-requires-clause-open_columns
store_row-requires-clause-open_columns c =
    others_open c.args.r c.args.c c.args.value c.args.row.now c.args.self.now.columns.items c.insert.new.self c.requires.apart c.requires.open_columns

pub returns : goal.returns
returns c =
    let columns = c.args.self.now.columns.items in
    let x = c.insert.new.self in
    let is : x ≡ with_pair (column_in columns c.args.c) c.args.r c.args.value =
    c.in_ok-insert.ensures.ok
    ∙ ap (λ (k : Sparse ℚ). with_pair k c.args.r c.args.value) (column_read columns c.args.c c.index_mut.result.now c.requires.apart.0 c.index_mut.ensures.value) in
    record {
      cross = refl;
      count = c.store_row.ensures.count ∙ length-set columns c.args.c x;
      columns = λ p. c.in_ok-store_row.ensures.stored p ∙ kept_columns c.args.r c.args.c c.args.value c.args.row.now columns x c.requires.apart is p;
      rows = refl;
      order = c.move_to_end.ensures.moved;
      left = refl;
      etas = kept_by c.push.result c.if-is_err.ensures.value c.push.ensures.ok;
    }
