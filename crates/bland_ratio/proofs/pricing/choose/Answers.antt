-- All columns are looked at.
use Rattle.bland_ratio.proofs.Counting.{work-all}
use Rattle.bland_ratio.proofs.pricing.choose.Goals as goal

pub returns-in-Some-clause-work : goal.returns-in-Some-clause-work
returns-in-Some-clause-work g c =
    work-all c.args.inst.now (g.A.Arith.work_count c.args.arith.now) (g.A.Arith.work_count c.first_stopper.new.arith) c.columns.result c.columns.ensures.count c.first_stopper.ensures.work

pub returns-in-None-clause-work : goal.returns-in-None-clause-work
returns-in-None-clause-work g c =
    work-all c.args.inst.now (g.A.Arith.work_count c.args.arith.now) (g.A.Arith.work_count c.first_stopper.new.arith) c.columns.result c.columns.ensures.count c.first_stopper.ensures.work
