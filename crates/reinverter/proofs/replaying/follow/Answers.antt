use Rattle.std.proofs.Common.{◌≡◌, Some, sym, subst}
use Rattle.rational.specs.Worked.{settle}
use Rattle.rational.proofs.Settling.{settle-done}
use Rattle.reinverter.proofs.Followed.{run_pivot}
use Rattle.reinverter.specs.Replays.{replayed}
use Rattle.reinverter.proofs.replaying.follow.Goals as goal

pub exchange-requires-clause-pivot : goal.exchange-requires-clause-pivot
exchange-requires-clause-pivot g c κs within =
    let a = c.args in
    let at = c.requires.exact in
    run_pivot a.inst.now at.0 a.state.now at.1 a.factors.now c.requires.factors a.entry c.requires.next c.in-Swap.q c.in-Swap.p c.in-Swap.field-2 c.in-Swap.is

pub returns-in-Flip-clause-followed : goal.returns-in-Flip-clause-followed
returns-in-Flip-clause-followed g c =
    let w = g.A.Arith.width c.args.arith.now in
    subst (λ e. settle w (replayed c.args.inst.now c.args.factors.now e) ≡ Some c.args.factors.now) (sym c.in-Flip.is) (settle-done w c.args.factors.now)

pub returns-in-Turn-clause-followed : goal.returns-in-Turn-clause-followed
returns-in-Turn-clause-followed g c =
    let w = g.A.Arith.width c.args.arith.now in
    subst (λ e. settle w (replayed c.args.inst.now c.args.factors.now e) ≡ Some c.args.factors.now) (sym c.in-Turn.is) (settle-done w c.args.factors.now)
