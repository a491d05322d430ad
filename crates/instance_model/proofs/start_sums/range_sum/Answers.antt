-- The right side and the shift make the one value.
use Rattle.std.proofs.Common.{Some, sym, ◌∙◌, ap, ap₂}
use Rattle.std.specs.Option.{option_map}
use Rattle.lp_model.specs.Deck.{row}
use Rattle.rational.specs.Rational.{◌+ℚ◌}
use Rattle.lp_run.specs.Instance.{range_sum}
use Rattle.instance_model.proofs.Sums.{shift_gives, value_fits, value_unfit}
use Rattle.instance_model.specs.Inner.Starts.{range_shift, row_place}
use Rattle.instance_model.proofs.start_sums.range_sum.Goals as goal

pub returns-in-Ok-clause-answer : goal.returns-in-Ok-clause-answer
returns-in-Ok-clause-answer g c =
    let r = row c.args.deck.now c.args.row in
    let shift = sym (c.in-Some.ensures ∙ ap₂ range_shift c.row_kind.ensures c.range.ensures) in
    value_fits _ (row_place c.args.row) (range_sum r) (c.right.result +ℚ c.in-Some.shift)
    (shift_gives r ∙ ap (option_map (λ s. r.right +ℚ s)) shift ∙ ap (λ b. Some (b +ℚ c.in-Some.shift)) (sym c.right.ensures)) c.in-Ok.ensures.answer.1

pub returns-in-Ok-clause-value : goal.returns-in-Ok-clause-value
returns-in-Ok-clause-value g c =
    let r = row c.args.deck.now c.args.row in
    let shift = sym (c.in-Some.ensures ∙ ap₂ range_shift c.row_kind.ensures c.range.ensures) in
    ap Some (c.in-Ok.ensures.answer.0 ∙ ap (λ b. b +ℚ c.in-Some.shift) c.right.ensures) ∙ sym (shift_gives r ∙ ap (option_map (λ s. r.right +ℚ s)) shift)

pub returns-in-Err-clause-answer : goal.returns-in-Err-clause-answer
returns-in-Err-clause-answer g c =
    let r = row c.args.deck.now c.args.row in
    let shift = sym (c.in-Some.ensures ∙ ap₂ range_shift c.row_kind.ensures c.range.ensures) in
    value_unfit _ (row_place c.args.row) (range_sum r) (c.right.result +ℚ c.in-Some.shift)
    (shift_gives r ∙ ap (option_map (λ s. r.right +ℚ s)) shift ∙ ap (λ b. Some (b +ℚ c.in-Some.shift)) (sym c.right.ensures)) c.in-Err.ensures.answer
    ∙ ap Some (sym c.row_place.ensures)
