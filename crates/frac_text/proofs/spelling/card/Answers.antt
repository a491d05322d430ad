use Rattle.rational.proofs.Ratio.{coprime_from_lowest, positive}
use Rattle.frac_text.proofs.spelling.card.Goals as goal

pub nonzero_rem-size : goal.nonzero_rem-size
nonzero_rem-size c = rw c.size_and_denominator-size.ensures.denom (positive c.args.value)

pub nonzero_div-size : goal.nonzero_div-size
nonzero_div-size c = rw c.size_and_denominator-size.ensures.denom (positive c.args.value)

pub places-requires-clause-some : goal.places-requires-clause-some
places-requires-clause-some c = rw c.size_and_denominator-size.ensures.denom (positive c.args.value)

pub places-requires-clause-coprime : goal.places-requires-clause-coprime
places-requires-clause-coprime c =
    let v = c.args.value in
    rw (c.size_and_denominator-size.ensures.size, c.size_and_denominator-size.ensures.denom) (coprime_from_lowest v.numerator v.denominator v.lowest)
