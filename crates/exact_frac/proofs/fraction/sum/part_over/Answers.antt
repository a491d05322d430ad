use Rattle.std.proofs.Common.{arith}
use Rattle.exact_frac.proofs.Scaled.{over_exact, over_carries}
use Rattle.exact_frac.proofs.fraction.sum.part_over.Goals as goal

pub overflow_add-result : goal.overflow_add-result
overflow_add-result c =
    record {
      fits = omega (
        arith,
        c.requires.fits,
        over_exact _ _ _ _ _ _ c.requires.some c.requires.divides c.scaled-left.ensures.quotient
            c.scaled-left.ensures.rest c.scaled-right.ensures.quotient c.if-rest-eq0.true,
      );
    }

pub overflow_add-result-else-rest-eq0 : goal.overflow_add-result-else-rest-eq0
overflow_add-result-else-rest-eq0 c =
    record {
      fits = omega (
        arith,
        c.requires.fits,
        over_carries _ _ _ _ _ _ c.requires.some c.requires.divides c.scaled-left.ensures.quotient
            c.scaled-left.ensures.rest c.scaled-right.ensures.quotient c.if-rest-eq0.false,
      );
    }

pub overflow_add-result-else-rest-eq0-2 : goal.overflow_add-result-else-rest-eq0-2
overflow_add-result-else-rest-eq0-2 c =
    record {
      fits = omega (
        arith,
        c.requires.fits,
        over_carries _ _ _ _ _ _ c.requires.some c.requires.divides c.scaled-left.ensures.quotient
            c.scaled-left.ensures.rest c.scaled-right.ensures.quotient c.if-rest-eq0.false,
      );
    }

pub returns-then-rest-eq0 : goal.returns-then-rest-eq0
returns-then-rest-eq0 c =
    over_exact _ _ _ _ _ _ c.requires.some c.requires.divides c.scaled-left.ensures.quotient c.scaled-left.ensures.rest c.scaled-right.ensures.quotient c.if-rest-eq0.true

pub returns-else-rest-eq0 : goal.returns-else-rest-eq0
returns-else-rest-eq0 c =
    over_carries _ _ _ _ _ _ c.requires.some c.requires.divides c.scaled-left.ensures.quotient c.scaled-left.ensures.rest c.scaled-right.ensures.quotient c.if-rest-eq0.false
