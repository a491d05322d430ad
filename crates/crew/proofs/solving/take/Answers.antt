use Rattle.crew.proofs.Calms.{calm_record, record_rose}
use Rattle.crew.proofs.Rounds.{record_fault, record_handed_on}
use Rattle.crew.proofs.solving.take.Goals as goal

pub fault_of-requires : goal.fault_of-requires
fault_of-requires g c =
    record_handed_on (g.A.Arith.width c.args.board.now.arith) c.args.board.now c.requires.stands _ _ c.args.choice c.requires.running c.requires.number c.in-Err.fault c.in-Err.ensures.fault

pub returns-in-Err-clause-fault : goal.returns-in-Err-clause-fault
returns-in-Err-clause-fault g c =
    record_fault (g.A.Arith.width c.args.board.now.arith) c.args.board.now c.requires.stands _ _ c.args.choice c.in-Err.fault c.fault_of.result c.in-Err.ensures.fault c.fault_of.ensures

pub returns-in-Err-clause-rose : goal.returns-in-Err-clause-rose
returns-in-Err-clause-rose g c =
    record_rose (g.A.Arith.width c.args.board.now.arith) c.args.board.now _ _ c.args.choice c.in-Err.fault c.fault_of.result c.in-Err.ensures.fault c.fault_of.ensures

pub returns-in-Err-clause-calm : goal.returns-in-Err-clause-calm
returns-in-Err-clause-calm g c fits none = (
  c.in-Err.ensures.fits fits none,
  calm_record (g.A.Arith.width c.args.board.now.arith) c.args.board.now none _ _ c.args.choice fits c.in-Err.fault c.fault_of.result c.in-Err.ensures.fault c.fault_of.ensures,
)
