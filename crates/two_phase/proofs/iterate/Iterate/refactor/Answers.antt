use Rattle.std.proofs.Common.{refl}
use Rattle.two_phase.proofs.Refactoring.{made_iterate, reached_basis}
use Rattle.two_phase.proofs.iterate.Iterate.refactor.Goals as goal

pub factors_of-requires-after_bounds : goal.factors_of-requires-after_bounds
factors_of-requires-after_bounds g c = λ κs bounds.
    let it = c.args.self.now in
    (it.state, reached_basis c.args.inst.now c.requires.0 it.state c.basis.result.now c.requires.1.reached c.basis.ensures)

pub returns-clause-stands : goal.returns-clause-stands
returns-clause-stands g c log stands =
    let inst = c.args.inst.now in
    let it = c.args.self.now in
    let basis = reached_basis inst c.requires.0 it.state c.basis.result.now c.requires.1.reached c.basis.ensures in
    let sized = stands.sized in
    made_iterate (g.A.Arith.width c.args.arith.now) inst log it _ c.args.number stands refl (c.in_ok-made.ensures.made it.state basis) refl stands.prices
    (record { prices = sized.prices; alpha = sized.alpha; spike = sized.spike; spare = sized.spare; few = sized.few })
