use Rattle.std.proofs.Common.{subst}
use Rattle.run_audit.specs.Inner.Parts.{Meets}
use Rattle.run_audit.proofs.judging.audit_along.Goals as goal

pub returns-in-Parts-clause-fits : goal.returns-in-Parts-clause-fits
returns-in-Parts-clause-fits g c =
    let (vs, lists, fits) = (subst (Meets (g.A.Arith.width c.args.arith.now) c.args.inst.now c.args.entries.now c.follow.new.table) c.in-Parts.is c.in_ok-k.ensures.met).1 in
    (vs, (c.args.entries.now, c.requires.log, lists), fits)
