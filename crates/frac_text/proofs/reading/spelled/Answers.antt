use Rattle.std.proofs.Common.{◌∙◌, nat_abs, sym}
use Rattle.frac_text.proofs.Parts.{above_is, below_is, from_parts, sign_is}
use Rattle.frac_text.proofs.reading.spelled.Goals as goal

pub returns-in_err-size : goal.returns-in_err-size
returns-in_err-size c v fits is =
    let text = c.args.bytes.now in
    let digits = above_is v text fits is in
    let unsigned = c.sign-negative.ensures.rest in
    let read = c.in_err-size.ensures.read (nat_abs v.numerator) fits.numerator_below (sym (c.halves.ensures.before ∙ rw unsigned digits)) in
    cc

pub returns-in_err-denom : goal.returns-in_err-denom
returns-in_err-denom c v fits is =
    let text = c.args.bytes.now in
    let digits = below_is v text fits is in
    let unsigned = c.sign-negative.ensures.rest in
    let read = c.in_err-denom.ensures.read v.denominator fits.denominator_below (sym (c.halves.ensures.after ∙ rw unsigned digits)) in
    cc

pub returns : goal.returns
returns c v fits is =
    let text = c.args.bytes.now in
    let unsigned = c.sign-negative.ensures.rest in
    let size = c.in_ok-size.ensures.read (nat_abs v.numerator) fits.numerator_below (sym (c.halves.ensures.before ∙ rw unsigned (above_is v text fits is))) in
    let denom = c.in_ok-denom.ensures.read v.denominator fits.denominator_below (sym (c.halves.ensures.after ∙ rw unsigned (below_is v text fits is))) in
    from_parts v c.sign-negative.result.0 c.in_ok-size.size c.in_ok-denom.denom c.fraction.result (c.sign-negative.ensures.negative ∙ sign_is v text fits is) size denom c.fraction.ensures
