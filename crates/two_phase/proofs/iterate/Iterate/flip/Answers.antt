use Rattle.std.proofs.Common.{◌≤◌, ◌<◌, length, sym, subst, arith}
use Rattle.lp_run.specs.Instance.{row_count}
use Rattle.factor_run.specs.Causes.{Cause}
use Rattle.plain_table.proofs.Coming.{handed_on}
use Rattle.two_phase.specs.Inner.Iterates.{IsIterate}
use Rattle.basis_solves.specs.Refusals.{Explains}
use Rattle.two_phase.proofs.Taking.{flip_refused, flip_taken, statused}
use Rattle.two_phase.proofs.iterate.Iterate.flip.Goals as goal

pub work_values-requires-clause-status : goal.work_values-requires-clause-status
work_values-requires-clause-status g c κs within = statused _ c.args.inst.now c.requires.well_formed c.args.log.now c.args.self.now c.requires.stands c.args.q c.requires.enters.eligible.in_range

pub returns-in_err-work_values-clause-refusal : goal.returns-in_err-work_values-clause-refusal
returns-in_err-work_values-clause-refusal g c =
    let w = g.A.Arith.width c.args.arith.now in
    let inst = c.args.inst.now in
    let log = c.args.log.now in
    let it = c.args.self.now in
    let past : row_count inst ≤ c.rows-past.result = omega (arith, c.rows-past.ensures.count) in
    let (here, e) = c.in_err-work_values.ensures.unfit_value in
    handed_on _ (Explains (Cause w inst (length log) it.state it.factors)) c.from_residual.ensures.1
    (flip_refused w inst c.requires.well_formed log it c.requires.stands c.requires.priced c.args.q c.requires.enters c.args.down c.args.ratio c.requires.entered c.len-number.result c.rows-past.result c.len-number.ensures past here e)

pub take-requires : goal.take-requires
take-requires g c =
    let kept = c.in_ok-work_values.ensures.spared in
    subst (λ s. c.args.q < length s.statuses) (sym kept.state)
    (statused _ c.args.inst.now c.requires.well_formed c.args.log.now c.args.self.now c.requires.stands c.args.q c.requires.enters.eligible.in_range)

pub returns-clause-stands : goal.returns-clause-stands
returns-clause-stands g c =
    let w = g.A.Arith.width c.args.arith.now in
    let inst = c.args.inst.now in
    let log = c.args.log.now in
    let it = c.args.self.now in
    let past : row_count inst ≤ c.rows-past.result = omega (arith, c.rows-past.ensures.count) in
    subst (λ log. IsIterate w inst log c.take.new.self) (sym c.in_ok-push.ensures.ok)
    (flip_taken w inst c.requires.well_formed log it c.requires.stands c.requires.priced c.args.q c.requires.enters c.args.down c.args.ratio c.requires.entered c.work_values.new.self c.take.new.self
    c.rows-past.result past c.in_ok-work_values.ensures.spared c.in_ok-work_values.ensures.worked c.take.ensures)
