use Rattle.std.proofs.Common.{length, sym, subst}
use Rattle.two_phase.specs.Board.{IsStandingOf, state_of}
use Rattle.two_phase.proofs.Boards.{stands_so}
use Rattle.two_phase.proofs.board.Board.standing.Goals as goal

pub returns-clause-so : goal.returns-clause-so
returns-clause-so g c = λ w stands.
    let b = c.args.self.now in
    subst (IsStandingOf b.inst.value b.budget (length b.log) (state_of b)) (sym c.standing_of.ensures) (stands_so w b stands)
