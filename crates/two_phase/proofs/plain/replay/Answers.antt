use Rattle.two_phase.proofs.Plains.{refused_first}
use Rattle.two_phase.proofs.plain.replay.Goals as goal

pub returns-in-Err-clause-fault : goal.returns-in-Err-clause-fault
returns-in-Err-clause-fault g c =
    refused_first _ c.args.inst.now c.requires.well_formed c.requires.fits c.args.log.now c.requires.run.0 c.requires.run.1 c.in-Err.fault c.in-Err.ensures.made
