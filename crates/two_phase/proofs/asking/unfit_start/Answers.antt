use Rattle.std.proofs.Common.{[], refl}
use Rattle.lp_run.specs.State.{start_of}
use Rattle.two_phase.proofs.Plains.{refused_first}
use Rattle.two_phase.proofs.UnfitStarts.{no_unfit_start}
use Rattle.two_phase.proofs.asking.unfit_start.Goals as goal

pub unreachable-requires : goal.unreachable-requires
unreachable-requires g c = no_unfit_start (g.A.Arith.width c.args.arith.now) c.args.inst.now c.requires.well_formed c.in-Ok.ensures.made.1 c.requires.unfit

pub returns-clause-fault : goal.returns-clause-fault
returns-clause-fault g c =
    refused_first (g.A.Arith.width c.args.arith.now) c.args.inst.now c.requires.well_formed c.requires.fits [] (start_of c.args.inst.now) refl c.in-Err.fault c.in-Err.ensures.made
