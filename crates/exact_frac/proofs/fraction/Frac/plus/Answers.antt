use Rattle.std.proofs.Common.{subst}
use Rattle.exact_frac.specs.Exact.{Exact}
use Rattle.exact_frac.proofs.Lowest.{same_split, fits_split}
use Rattle.exact_frac.proofs.Whole.{wholes_added}
use Rattle.exact_frac.proofs.Zero.{zero_added, added_zero}
use Rattle.exact_frac.proofs.fraction.Frac.plus.Goals as goal

pub returns-then-is_zero : goal.returns-then-is_zero
returns-then-is_zero c = zero_added c.args.self c.args.other _ (c.is_zero.ensures.0 c.if-is_zero.true) c.in_full.ensures

pub returns-then-is_zero-2 : goal.returns-then-is_zero-2
returns-then-is_zero-2 c = added_zero c.args.self c.args.other _ (c.is_zero-2.ensures.0 c.if-is_zero-2.true) c.in_full-then-is_zero-2.ensures

pub returns-then-other-eq1 : goal.returns-then-other-eq1
returns-then-other-eq1 c =
    subst (λ v. Exact 127 v c.whole_sum.result)
    (wholes_added _ _ _ _ _ _ c.self.invariant c.other.invariant c.if-self-eq1.true c.if-other-eq1.true c.self.view_is c.other.view_is)
    c.whole_sum.ensures

pub returns-in-Some : goal.returns-in-Some
returns-in-Some c =
    (same_split _ _ _ _ _ c.from_parts.ensures c.in-Some.ensures, fits_split _ _ _ _ c.in-Some.ensures)
