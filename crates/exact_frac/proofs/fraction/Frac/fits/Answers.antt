use Rattle.exact_frac.proofs.Widths.{fits_by_shifts}
use Rattle.exact_frac.proofs.fraction.Frac.fits.Goals as goal

pub returns-then-unsigned_abs-bits-eq0 : goal.returns-then-unsigned_abs-bits-eq0
returns-then-unsigned_abs-bits-eq0 c =
    fits_by_shifts _ _ _ c.self.invariant c.self.view_is c.args.bits _ c.unsigned_abs.ensures.value c.if-unsigned_abs-bits-eq0.true
