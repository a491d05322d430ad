use Rattle.cert_check.proofs.Adding.{skipped-left, skipped-right}
use Rattle.cert_check.proofs.sums.is_skipped.Goals as goal

pub returns-then-is_zero : goal.returns-then-is_zero
returns-then-is_zero c = skipped-left c.is_zero.result c.args.a c.args.b c.is_zero.ensures c.if-is_zero.true

pub returns-else-is_zero : goal.returns-else-is_zero
returns-else-is_zero c =
    skipped-right c.is_zero.result c.is_zero-else-is_zero.result c.args.a c.args.b c.is_zero.ensures c.if-is_zero.false c.is_zero-else-is_zero.ensures
