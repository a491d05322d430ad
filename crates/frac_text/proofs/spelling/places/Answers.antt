use Rattle.std.proofs.Common.{◌+◌, ◌∙◌, arith, sym}
use Rattle.frac_text.proofs.Decimals.{broken_more, digits_more, past_places, placed, too_deep, too_long}
use Rattle.frac_text.proofs.spelling.places.Goals as goal

pub returns-then-denom-gt-MOST_DENOM-clause-places : goal.returns-then-denom-gt-MOST_DENOM-clause-places
returns-then-denom-gt-MOST_DENOM-clause-places c = too_deep c.args.size c.args.denom c.requires.coprime c.if-denom-gt-MOST_DENOM.true

pub returns-then-whole-ge-MANTISSA_LIMIT-clause-places : goal.returns-then-whole-ge-MANTISSA_LIMIT-clause-places
returns-then-whole-ge-MANTISSA_LIMIT-clause-places c =
    let i = c.loop-before.invariant in
    too_long c.args.size c.args.denom c.loop-before.before c.requires.some i.broken (omega (arith, i.whole_is))

pub returns-then-rest-eq0-clause-places : goal.returns-then-rest-eq0-clause-places
returns-then-rest-eq0-clause-places c =
    let i = c.loop-before.invariant in
    let more = digits_more c.args.size c.args.denom c.loop-before.before c.loop-before.whole c.loop-before.rest c.requires.some i.whole_is i.rest_is in
    c.small.ensures.value ∙ placed c.args.size c.args.denom (c.loop-before.before + 1) _ (omega arith) i.broken (sym more.1 ∙ c.if-rest-eq0.true) more.0

pub loop-before-preserved : goal.loop-before-preserved
loop-before-preserved c =
    let i = c.loop-before.invariant in
    let more = digits_more c.args.size c.args.denom c.loop-before.before c.loop-before.whole c.loop-before.rest c.requires.some i.whole_is i.rest_is in
    record {
      whole_is = more.0;
      rest_is = more.1;
      broken = broken_more c.args.size c.args.denom (c.loop-before.before + 1) i.broken (λ e. c.if-rest-eq0.false (more.1 ∙ e));
    }

pub returns-clause-places : goal.returns-clause-places
returns-clause-places c = past_places c.args.size c.args.denom c.loop-before.before (omega arith) c.loop-before.invariant.broken
