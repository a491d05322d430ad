use Rattle.std.proofs.Common.{◌≡◌, ◌+◌, ◌<◌, length, sym, subst, true}
use Rattle.std.specs.List.{list_all}
use Rattle.std.proofs.lemmas.Result.{err_from_is_err_and}
use Rattle.lp_text.specs.Digits.{is_digit}
use Rattle.mps_model.specs.NumberField.{signed}
use Rattle.number_fields.proofs.SpellingLemmas.{whole_digits, decimal_digits, some_first, some_second, read_fault, read_unfit, read_value}
use Rattle.number_fields.proofs.field.Goals as goal
use Rattle.number_fields.proofs.field.Goals.{else-is_empty-via-then-is_empty+else-is_empty-2, else-is_empty-via-else-is_empty}

pub value-requires-clause-whole : goal.value-requires-clause-whole
value-requires-clause-whole c = subst (λ t. list_all is_digit t ≡ true) (sym c.mantissa.ensures.whole) (whole_digits c.sign-negative.result.1.now)

pub value-requires-clause-decimals : goal.value-requires-clause-decimals
value-requires-clause-decimals c = subst (λ t. list_all is_digit t ≡ true) (sym c.mantissa.ensures.decimals) (decimal_digits c.sign-negative.result.1.now)

pub returns-in_err-down : goal.returns-in_err-down
returns-in_err-down c =
    let some : 0 < length c.mantissa.result.0.now + length c.mantissa.result.1.now =
    elim c.else-is_empty.branch [
      | else-is_empty-via-then-is_empty+else-is_empty-2 w ↦ some_second (length c.mantissa.result.0.now) (length c.mantissa.result.1.now) w.if-is_empty-2.ensures
      | else-is_empty-via-else-is_empty w ↦ some_first (length c.mantissa.result.0.now) (length c.mantissa.result.1.now) w.if-is_empty.ensures
    ] in
    let p = err_from_is_err_and c.from_residual.result c.from_residual.ensures.1 in
    rw (p.1, p.2)
    (read_fault c.args.bytes.now c.sign-negative.result.1.now c.mantissa.result.0.now c.mantissa.result.1.now c.mantissa.result.2.now
    c.sign-negative.ensures.rest c.mantissa.ensures.whole c.mantissa.ensures.decimals c.mantissa.ensures.rest some
    c.in_err-down.field-0.0 c.in_err-down.ensures)

pub returns-in-None : goal.returns-in-None
returns-in-None c =
    let some : 0 < length c.mantissa.result.0.now + length c.mantissa.result.1.now =
    elim c.else-is_empty.branch [
      | else-is_empty-via-then-is_empty+else-is_empty-2 w ↦ some_second (length c.mantissa.result.0.now) (length c.mantissa.result.1.now) w.if-is_empty-2.ensures
      | else-is_empty-via-else-is_empty w ↦ some_first (length c.mantissa.result.0.now) (length c.mantissa.result.1.now) w.if-is_empty.ensures
    ] in
    read_unfit c.args.bytes.now c.sign-negative.result.1.now c.mantissa.result.0.now c.mantissa.result.1.now c.mantissa.result.2.now
    c.sign-negative.ensures.rest c.mantissa.ensures.whole c.mantissa.ensures.decimals c.mantissa.ensures.rest some
    c.sign-negative.result.0 c.sign-negative.ensures.negative (signed c.in_ok-down.down c.in_ok-down.size) c.in_ok-down.ensures.0 c.in-None.ensures

pub returns-in-Some : goal.returns-in-Some
returns-in-Some c =
    let some : 0 < length c.mantissa.result.0.now + length c.mantissa.result.1.now =
    elim c.else-is_empty.branch [
      | else-is_empty-via-then-is_empty+else-is_empty-2 w ↦ some_second (length c.mantissa.result.0.now) (length c.mantissa.result.1.now) w.if-is_empty-2.ensures
      | else-is_empty-via-else-is_empty w ↦ some_first (length c.mantissa.result.0.now) (length c.mantissa.result.1.now) w.if-is_empty.ensures
    ] in
    read_value c.args.bytes.now c.sign-negative.result.1.now c.mantissa.result.0.now c.mantissa.result.1.now c.mantissa.result.2.now
    c.sign-negative.ensures.rest c.mantissa.ensures.whole c.mantissa.ensures.decimals c.mantissa.ensures.rest some
    c.sign-negative.result.0 c.sign-negative.ensures.negative (signed c.in_ok-down.down c.in_ok-down.size) c.in_ok-down.ensures.0 c.in-Some.value c.in-Some.ensures
