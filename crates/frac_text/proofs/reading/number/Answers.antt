use Rattle.std.proofs.Common.{◌∙◌}
use Rattle.frac_text.proofs.Numbers.{no_refusal, number_read, past_limit, same_text, utf8_decimal}
use Rattle.frac_text.proofs.reading.number.Goals as goal

pub returns-in_err-digits-clause-read : goal.returns-in_err-digits-clause-read
returns-in_err-digits-clause-read c n below is = absurd (no_refusal _ _ c.from_utf8.result c.from_utf8.ensures.cases (utf8_decimal n c.args.digits.now below is) c.in_err-digits.ensures.value)

pub returns-in_err-number-clause-read : goal.returns-in_err-number-clause-read
returns-in_err-number-clause-read c n below is =
    let text = same_text _ _ c.args.digits.now c.in_ok-digits.digits c.from_utf8.result c.from_utf8.ensures.cases c.in_ok-digits.ensures.value in
    let read = number_read n c.args.digits.now c.in_ok-digits.digits.now c.parse.result below is text c.parse.ensures.value.0 in
    let none = c.in_err-number.ensures.value in
    cc

pub returns-then-number-lt-LIMIT-clause-read : goal.returns-then-number-lt-LIMIT-clause-read
returns-then-number-lt-LIMIT-clause-read c n below is =
    let text = same_text _ _ c.args.digits.now c.in_ok-digits.digits c.from_utf8.result c.from_utf8.ensures.cases c.in_ok-digits.ensures.value in
    let read = number_read n c.args.digits.now c.in_ok-digits.digits.now c.parse.result below is text c.parse.ensures.value.0 in
    c.in_ok-number.ensures.value ∙ read

pub returns-else-number-lt-LIMIT-clause-read : goal.returns-else-number-lt-LIMIT-clause-read
returns-else-number-lt-LIMIT-clause-read c n below is =
    let text = same_text _ _ c.args.digits.now c.in_ok-digits.digits c.from_utf8.result c.from_utf8.ensures.cases c.in_ok-digits.ensures.value in
    let read = number_read n c.args.digits.now c.in_ok-digits.digits.now c.parse.result below is text c.parse.ensures.value.0 in
    let some = c.in_ok-number.ensures.value ∙ read in
    let past = c.if-number-lt-LIMIT.false in
    absurd (past_limit c.in_ok-number.number n below past some)
