use Rattle.std.proofs.Common.{◌++◌}
use Rattle.lp_text.specs.Digits.{digits_value}
use Rattle.number_fields.proofs.PartLemmas.{short_fitting, shifted_large, shifted_fine, shifted_fitting}
use Rattle.number_fields.proofs.Places.{short_all}
use Rattle.number_fields.proofs.parts.shifted.Goals as goal

pub returns-in-None : goal.returns-in-None
returns-in-None c =
    shifted_large c.args.negative (digits_value (c.args.whole.now ++ c.args.decimals.now)) c.args.places c.args.zeros c.requires.one_way c.in-None.ensures

pub returns-in-None-last_part : goal.returns-in-None-last_part
returns-in-None-last_part c =
    shifted_fine c.args.negative (digits_value (c.args.whole.now ++ c.args.decimals.now)) c.args.places c.args.zeros c.requires.one_way c.in-None-last_part.ensures

pub returns-in-Some-last_part : goal.returns-in-Some-last_part
returns-in-Some-last_part c =
    shifted_fitting c.args.negative (digits_value (c.args.whole.now ++ c.args.decimals.now)) c.args.places c.args.zeros c.requires.one_way
    c.in-Some.number c.in-Some-last_part.numer c.in-Some-last_part.denom c.joined.result
    c.in-Some.ensures.0 c.in-Some-last_part.ensures.0 c.in-Some-last_part.ensures.1 c.joined.ensures

pub returns-then-whole-decimals-le-SHORT : goal.returns-then-whole-decimals-le-SHORT
returns-then-whole-decimals-le-SHORT c =
    short_fitting c.args.negative (digits_value (c.args.whole.now ++ c.args.decimals.now)) c.args.places c.args.zeros c.short.result c.if-zeros-eq0.true
    (short_all c.args.whole.now c.args.decimals.now c.requires.whole c.requires.decimals c.if-whole-decimals-le-SHORT.true) c.if-places-le-SHORT.true c.short.ensures
