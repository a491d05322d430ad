use Rattle.std.proofs.Common.{true, false, sym, ◌∙◌}
use Rattle.rational.proofs.OrderLaws.{is_lt-cmp_ℚ}
use Rattle.ranging.proofs.Ends.{lesser_is}
use Rattle.ranging.proofs.interval.lesser_end.Goals as goal

pub returns-then-lt : goal.returns-then-lt
returns-then-lt c =
    lesser_is c.args.a c.args.b c.in-Some-Some.x c.in-Some-Some.y true c.in-Some-Some.is-0 c.in-Some-Some.is-1
    (sym (is_lt-cmp_ℚ c.in-Some-Some.y c.in-Some-Some.x) ∙ sym c.lt.ensures ∙ c.if-lt.true)

pub returns-else-lt : goal.returns-else-lt
returns-else-lt c =
    lesser_is c.args.a c.args.b c.in-Some-Some.x c.in-Some-Some.y false c.in-Some-Some.is-0 c.in-Some-Some.is-1
    (sym (is_lt-cmp_ℚ c.in-Some-Some.y c.in-Some-Some.x) ∙ sym c.lt.ensures ∙ c.if-lt.false)
