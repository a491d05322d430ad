use Rattle.crew.proofs.Calms.{calm_ticket, ticket_rose}
use Rattle.crew.proofs.Rounds.{ticket_fault, ticket_handed_on}
use Rattle.crew.proofs.solving.ask.Goals as goal

pub fault_of-requires : goal.fault_of-requires
fault_of-requires g c =
    ticket_handed_on (g.A.Arith.width c.args.board.now.arith) c.args.board.now c.requires.stands _ _ c.requires.running c.in-Err.fault c.in-Err.ensures.fault

pub returns-in-Err-clause-fault : goal.returns-in-Err-clause-fault
returns-in-Err-clause-fault g c =
    ticket_fault (g.A.Arith.width c.args.board.now.arith) c.args.board.now c.requires.stands _ _ c.in-Err.fault c.fault_of.result c.in-Err.ensures.fault c.fault_of.ensures

pub returns-in-Err-clause-rose : goal.returns-in-Err-clause-rose
returns-in-Err-clause-rose g c =
    ticket_rose (g.A.Arith.width c.args.board.now.arith) c.args.board.now _ _ c.in-Err.fault c.fault_of.result c.in-Err.ensures.fault c.fault_of.ensures

pub returns-in-Err-clause-calm : goal.returns-in-Err-clause-calm
returns-in-Err-clause-calm g c none =
    (c.in-Err.ensures.fits none, calm_ticket (g.A.Arith.width c.args.board.now.arith) c.args.board.now none _ _ c.in-Err.fault c.fault_of.result c.in-Err.ensures.fault c.fault_of.ensures)
