use Rattle.std.proofs.Common.{◌+◌, ◌≤◌, [], refl, sym, subst}
use Rattle.bland_ratio.specs.Entries.{stored_entries}
use Rattle.factor_run.specs.Bound.{making_work}
use Rattle.factor_run.specs.Calm.{IsCalm}
use Rattle.lp_run.specs.Instance.{IsWellFormed}
use Rattle.two_phase.specs.Inner.Grounds.{BeginsBuilt, GroundStands}
use Rattle.two_phase.proofs.Boards.{along_none, built_begun, starts}
use Rattle.two_phase.proofs.board.Board.new.Goals as goal

pub returns-in-Ok-clause-stands : goal.returns-in-Ok-clause-stands
returns-in-Ok-clause-stands g c =
    let w = g.A.Arith.width c.args.arith in
    starts w _ c.new.ensures refl refl refl (subst IsWellFormed c.deref.ensures c.in-Ok.ensures.well_formed) c.requires.fits
    (subst (λ i. GroundStands w i [] c.in-Ok.ground) c.deref.ensures c.in-Ok.ensures.stands) (subst (λ i. BeginsBuilt w i c.in-Ok.ground) c.deref.ensures c.in-Ok.ensures.made)

pub returns-in-Ok-clause-built : goal.returns-in-Ok-clause-built
returns-in-Ok-clause-built g c =
    let w = g.A.Arith.width c.args.arith in
    along_none w c.args.inst.value c.in-Ok.ground _ c.new.ensures (built_begun w c.args.inst.value c.in-Ok.ground (subst (λ i. BeginsBuilt w i c.in-Ok.ground) c.deref.ensures c.in-Ok.ensures.made))

pub returns-in-Ok-clause-work : goal.returns-in-Ok-clause-work
returns-in-Ok-clause-work g c =
    subst (λ i. g.A.Arith.work_count c.begin.new.arith ≤ g.A.Arith.work_count c.args.arith + (stored_entries i + making_work i)) c.deref.ensures c.in-Ok.ensures.work

pub returns-in-Err-clause-refused : goal.returns-in-Err-clause-refused
returns-in-Err-clause-refused g c calm = c.in-Err.ensures.refused (subst (IsCalm (g.A.Arith.width c.args.arith)) (sym c.deref.ensures) calm)
