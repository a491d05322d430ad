use Rattle.std.proofs.Common.{◌≡◌, below_more, sym, ◌∙◌, arith}
use Rattle.frac_text.proofs.Decimals.{still_zeros, trimmed_is, zero_more, zeros_are}
use Rattle.frac_text.proofs.spelling.trimmed.Goals as goal

pub returns-then-rest-ne0-clause-mantissa : goal.returns-then-rest-ne0-clause-mantissa
returns-then-rest-ne0-clause-mantissa c =
    let i = c.loop-zeros.invariant in
    trimmed_is c.args.size c.loop-zeros.zeros c.loop-zeros.rest (omega arith) i.rest_is i.whole i.ends (λ _. c.if-rest-ne0.true)

pub returns-then-rest-ne0-clause-zeros : goal.returns-then-rest-ne0-clause-zeros
returns-then-rest-ne0-clause-zeros c =
    let i = c.loop-zeros.invariant in
    sym (zeros_are c.args.size c.loop-zeros.zeros c.loop-zeros.rest (omega arith) i.rest_is i.whole i.ends (λ _. c.if-rest-ne0.true))

pub loop-zeros-preserved : goal.loop-zeros-preserved
loop-zeros-preserved c =
    let i = c.loop-zeros.invariant in
    let more = still_zeros c.args.size c.loop-zeros.zeros c.loop-zeros.rest i.rest_is i.whole c.if-rest-ne0.false in
    record {
      rest_is = zero_more c.args.size c.loop-zeros.zeros c.loop-zeros.rest i.rest_is;
      whole = more;
      ends = below_more _ _ i.ends more;
    }

pub returns-clause-mantissa : goal.returns-clause-mantissa
returns-clause-mantissa c =
    let i = c.loop-zeros.invariant in
    trimmed_is c.args.size c.loop-zeros.zeros c.loop-zeros.rest (omega arith) i.rest_is i.whole i.ends (λ h. absurd (omega arith))

pub returns-clause-zeros : goal.returns-clause-zeros
returns-clause-zeros c =
    let i = c.loop-zeros.invariant in
    let all : 39 ≡ c.loop-zeros.zeros = omega arith in
    all ∙ sym (zeros_are c.args.size c.loop-zeros.zeros c.loop-zeros.rest (omega arith) i.rest_is i.whole i.ends (λ h. absurd (omega arith)))
