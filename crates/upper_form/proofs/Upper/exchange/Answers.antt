use Rattle.std.proofs.Common.{◌<◌, length, sym, subst, ◌∙◌, arith}
use Rattle.std.proofs.lemmas.List.{length-set}
use Rattle.factor_model.specs.Upper.{Triangle, IsUpper}
use Rattle.sparse_steps.proofs.Steps.{item_read}
use Rattle.upper_form.proofs.Steps.{is_by_position}
use Rattle.upper_form.proofs.Exchanging.{positions_more, positions_rest, rows_more, rows_rest}
use Rattle.upper_form.proofs.Upper.exchange.Goals as goal

pub loop-p-preserved : goal.loop-p-preserved
loop-p-preserved c =
    let u = c.args.self.now in
    let upper = subst (λ (t : Triangle). IsUpper (length t.rows) t) c.self.view_is c.self.invariant in
    let p = c.loop-p.p in
    let row = c.row_of-row.result in
    let rows = c.loop-p.rows in
    let positions = c.loop-p.positions in
    let x = c.index-rows-row.result in
    let y = c.index-positions-p.result in
    let inv = c.loop-p.invariant in
    let p_lt : p < length u.rows = omega (arith, c.requires.length) in
    let x_is = item_read rows row x (omega (arith, c.row_of-row.ensures.within, inv.rows_len, c.requires.rows)) c.index-rows-row.is in
    let y_is = item_read positions p y (omega (arith, p_lt, inv.positions_len, c.requires.length)) c.index-positions-p.is in
    record {
      rows_len = length-set rows row y ∙ inv.rows_len;
      positions_len = length-set positions p x ∙ inv.positions_len;
      positions_done = positions_more u upper p p_lt row c.row_of-row.ensures.value positions c.args.positions.now rows c.args.rows.now x x_is
          (inv.positions_len ∙ c.requires.length) inv.positions_done inv.rows_left;
      positions_left = positions_rest p positions c.args.positions.now x inv.positions_left;
      rows_done = rows_more u upper p p_lt row c.row_of-row.ensures.value positions c.args.positions.now rows y y_is (inv.rows_len ∙ c.requires.rows) inv.positions_left inv.rows_done;
      rows_left = rows_rest u upper p p_lt row c.row_of-row.ensures.value rows c.args.rows.now y inv.rows_left;
    }

pub returns-clause-positions : goal.returns-clause-positions
returns-clause-positions c =
    is_by_position c.args.self.now c.args.rows.now c.loop-p.positions (c.loop-p.invariant.positions_len ∙ c.requires.length)
    (λ k lt. c.loop-p.invariant.positions_done k (omega (arith, lt, c.requires.length)))

pub returns-clause-rows : goal.returns-clause-rows
returns-clause-rows c =
    sym (is_by_position c.args.self.now c.loop-p.rows c.args.positions.now c.requires.length
    (λ k lt. sym (c.loop-p.invariant.rows_done k (omega (arith, lt, c.requires.length)))))
