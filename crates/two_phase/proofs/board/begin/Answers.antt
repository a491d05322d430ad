use Rattle.std.proofs.Common.{sym, ◌∙◌, subst}
use Rattle.two_phase.specs.Board.{IsStartCause}
use Rattle.two_phase.proofs.Boards.{start_cause, start_memory}
use Rattle.two_phase.proofs.UnfitStarts.{calm_start}
use Rattle.two_phase.proofs.board.begin.Goals as goal

pub returns-in-Err-clause-fault : goal.returns-in-Err-clause-fault
returns-in-Err-clause-fault g c =
    let inst = c.args.inst.now in
    let w = g.A.Arith.width c.args.arith.now in
    let before = g.A.Arith.unfit_count c.args.arith.now in
    let after = g.A.Arith.unfit_count c.start.new.arith in
    subst (IsStartCause w inst before after) (sym c.board_fault.ensures) (start_cause w inst before after c.in-Err.fault c.in-Err.ensures.fault c.in-Err.ensures.rose c.in-Err.ensures.cause)

pub returns-in-Err-clause-refused : goal.returns-in-Err-clause-refused
returns-in-Err-clause-refused g c calm =
    let inst = c.args.inst.now in
    let w = g.A.Arith.width c.args.arith.now in
    let fits = calm_start w inst calm in
    (c.board_fault.ensures ∙ start_memory w inst c.in-Err.fault fits c.in-Err.ensures.cause, c.in-Err.ensures.fitted fits)
