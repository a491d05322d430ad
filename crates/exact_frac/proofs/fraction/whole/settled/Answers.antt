use Rattle.exact_frac.proofs.Whole.{settled_none, settled_fits, settled_is, settled_wide}
use Rattle.exact_frac.proofs.fraction.whole.settled.Goals as goal

pub returns-in-None : goal.returns-in-None
returns-in-None c = settled_none c.args.numer c.in-None.is

pub invariant_of-result : goal.invariant_of-result
invariant_of-result c =
    settled_fits c.args.numer c.in-Some.numer _ c.in-Some.is c.unsigned_abs.ensures.value c.if-unsigned_abs-lt-LIMIT.true

pub returns-then-unsigned_abs-lt-LIMIT : goal.returns-then-unsigned_abs-lt-LIMIT
returns-then-unsigned_abs-lt-LIMIT c =
    settled_is c.args.numer c.in-Some.numer _ c.in-Some.is c.unsigned_abs.ensures.value c.if-unsigned_abs-lt-LIMIT.true

pub returns-else-unsigned_abs-lt-LIMIT : goal.returns-else-unsigned_abs-lt-LIMIT
returns-else-unsigned_abs-lt-LIMIT c =
    settled_wide c.args.numer c.in-Some.numer _ c.in-Some.is c.unsigned_abs.ensures.value c.if-unsigned_abs-lt-LIMIT.false
