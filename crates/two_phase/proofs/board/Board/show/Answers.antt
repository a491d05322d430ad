use Rattle.std.proofs.Common.{sym, subst}
use Rattle.two_phase.specs.Inner.Grounds.{GroundStands}
use Rattle.two_phase.proofs.board.Board.show.Goals as goal

pub show-requires-clause-stands : goal.show-requires-clause-stands
show-requires-clause-stands g c κs well_formed =
    let b = c.args.self.now in
    let w = g.A.Arith.width b.arith in
    (w, b.log, subst (λ i. GroundStands w i b.log b.ground) (sym c.deref.ensures) c.requires.stands.stands)
