use Rattle.exact_frac.proofs.Zero.{zero_test}
use Rattle.exact_frac.proofs.fraction.Frac.is_zero.Goals as goal

pub returns : goal.returns
returns c = zero_test _ _ _ c.self.invariant c.self.view_is
