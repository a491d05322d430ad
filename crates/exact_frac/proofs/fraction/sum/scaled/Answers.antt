use Rattle.std.proofs.Common.{arith}
use Rattle.exact_frac.proofs.Scaled.{scaled_is, scaled_left_is}
use Rattle.exact_frac.proofs.fraction.sum.scaled.Goals as goal

pub overflow_mul-result : goal.overflow_mul-result
overflow_mul-result c =
    record {
      fits = omega (
        arith,
        c.requires.fits,
        scaled_is _ _ _ _ _ _ _ c.div_rem-whole.ensures.quotient c.div_rem-whole.ensures.rest
            c.div_rem-more.ensures.quotient c.div_rem-more.ensures.rest c.requires.some,
      );
    }

pub overflow_add-result : goal.overflow_add-result
overflow_add-result c =
    record {
      fits = omega (
        arith,
        c.requires.fits,
        scaled_is _ _ _ _ _ _ _ c.div_rem-whole.ensures.quotient c.div_rem-whole.ensures.rest
            c.div_rem-more.ensures.quotient c.div_rem-more.ensures.rest c.requires.some,
      );
    }

pub returns-clause-quotient : goal.returns-clause-quotient
returns-clause-quotient c =
    scaled_is _ _ _ _ _ _ _ c.div_rem-whole.ensures.quotient c.div_rem-whole.ensures.rest c.div_rem-more.ensures.quotient c.div_rem-more.ensures.rest c.requires.some

pub returns-clause-rest : goal.returns-clause-rest
returns-clause-rest c =
    scaled_left_is _ _ _ _ _ _ _ c.div_rem-whole.ensures.quotient c.div_rem-whole.ensures.rest c.div_rem-more.ensures.quotient c.div_rem-more.ensures.rest
