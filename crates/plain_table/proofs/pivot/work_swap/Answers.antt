-- The parts one after another: the first value that does not fit is the first of all.
use Rattle.std.proofs.Common.{ℕ, Result, Ok, refl, ◌∙◌}
use Rattle.lp_model.specs.declared.Place.{Place}
use Rattle.rational.specs.Rational.{zero_ℚ}
use Rattle.plain_table.specs.Inner.Lines.{less_listing}
use Rattle.plain_table.proofs.Lines.{item_read}
use Rattle.plain_table.proofs.Parts.{judged_on}
use Rattle.plain_table.proofs.Pivots.{are_pivoted, costs_judged, line_refused, rows_refused, values_refused}
use Rattle.plain_table.proofs.pivot.work_swap.Goals as goal

abbrev worked : ℕ → Result ℕ Place
worked count = Ok count

pub returns-in_err-divide_pivot_row-clause-answer : goal.returns-in_err-divide_pivot_row-clause-answer
returns-in_err-divide_pivot_row-clause-answer g c =
    line_refused _ c.args.pivot.now c.args.alpha.now c.args.rows.now c.args.values.now c.args.costs.now _ c.from_residual.result c.in_err-divide_pivot_row.ensures.answer c.from_residual.ensures.1

pub returns-in_err-eliminate_all-clause-answer : goal.returns-in_err-eliminate_all-clause-answer
returns-in_err-eliminate_all-clause-answer g c =
    rows_refused _ c.args.pivot.now c.args.alpha.now c.args.rows.now c.args.values.now c.args.costs.now c.in_ok-divide_pivot_row.ensures.answer c.divide_pivot_row.new.by
    c.in_ok-divide_pivot_row.ensures.divided
    _ _ c.from_residual-in_err-eliminate_all.result c.divide_pivot_row.ensures.width c.in_err-eliminate_all.ensures.answer c.from_residual-in_err-eliminate_all.ensures.1

pub returns-in_err-move_values-clause-answer : goal.returns-in_err-move_values-clause-answer
returns-in_err-move_values-clause-answer g c =
    values_refused _ c.args.pivot.now c.args.alpha.now c.args.rows.now c.args.values.now c.args.costs.now c.in_ok-divide_pivot_row.ensures.answer c.divide_pivot_row.new.by
    c.in_ok-divide_pivot_row.ensures.divided
    _ c.divide_pivot_row.ensures.width c.in_ok-eliminate_all.ensures.answer _ _ c.from_residual-in_err-move_values.result
    (c.eliminate_all.ensures.width ∙ c.divide_pivot_row.ensures.width) c.in_err-move_values.ensures.answer c.from_residual-in_err-move_values.ensures.1

pub returns-in_err-subtract_line-clause-answer : goal.returns-in_err-subtract_line-clause-answer
returns-in_err-subtract_line-clause-answer g c =
    costs_judged _ c.args.pivot.now c.args.alpha.now c.args.rows.now c.args.values.now c.args.costs.now c.in_ok-divide_pivot_row.ensures.answer c.divide_pivot_row.new.by
    c.in_ok-divide_pivot_row.ensures.divided
    _ c.divide_pivot_row.ensures.width c.in_ok-eliminate_all.ensures.answer _ _ c.costs_place.result c.index-costs-q.result c.from_residual-in_err-subtract_line.result
    (c.eliminate_all.ensures.width ∙ c.divide_pivot_row.ensures.width) (c.move_values.ensures.width ∙ c.eliminate_all.ensures.width ∙ c.divide_pivot_row.ensures.width) c.costs_place.ensures
    (item_read c.args.costs.now c.args.pivot.now.column c.index-costs-q.result zero_ℚ c.requires.column c.index-costs-q.is) c.in_ok-move_values.ensures.answer
    (judged_on _ _ (less_listing c.costs_place.result c.args.costs.now c.index-costs-q.result c.divide_pivot_row.new.by) _ c.from_residual-in_err-subtract_line.result refl
    c.in_err-subtract_line.ensures.answer c.from_residual-in_err-subtract_line.ensures.1)

pub returns-clause-answer : goal.returns-clause-answer
returns-clause-answer g c =
    costs_judged _ c.args.pivot.now c.args.alpha.now c.args.rows.now c.args.values.now c.args.costs.now c.in_ok-divide_pivot_row.ensures.answer c.divide_pivot_row.new.by
    c.in_ok-divide_pivot_row.ensures.divided
    _ c.divide_pivot_row.ensures.width c.in_ok-eliminate_all.ensures.answer _ _ c.costs_place.result c.index-costs-q.result (worked c.find_support-count.result)
    (c.eliminate_all.ensures.width ∙ c.divide_pivot_row.ensures.width) (c.move_values.ensures.width ∙ c.eliminate_all.ensures.width ∙ c.divide_pivot_row.ensures.width) c.costs_place.ensures
    (item_read c.args.costs.now c.args.pivot.now.column c.index-costs-q.result zero_ℚ c.requires.column c.index-costs-q.is) c.in_ok-move_values.ensures.answer
    c.in_ok-subtract_line.ensures.answer

pub returns-clause-pivoted : goal.returns-clause-pivoted
returns-clause-pivoted g c =
    let v = c.args.pivot.now in
    are_pivoted v c.args.alpha.now c.args.rows.now c.args.values.now c.args.costs.now _ c.eliminate_all.new.out c.move_values.new.out c.subtract_line.new.out
    c.divide_pivot_row.new.by c.index-costs-q.result c.in_ok-divide_pivot_row.ensures.divided
    (item_read c.args.costs.now v.column c.index-costs-q.result zero_ℚ c.requires.column c.index-costs-q.is) c.in_ok-eliminate_all.ensures.eliminated c.in_ok-move_values.ensures.moved
    c.in_ok-subtract_line.ensures.less
