use Rattle.std.proofs.Common.{subst}
use Rattle.std.specs.Prelude.{IfErr, IfOk}
use Rattle.std.proofs.lemmas.Result.{IfOk-weaker}
use Rattle.plain_table.proofs.Coming.{handed_on}
use Rattle.basis_solves.specs.Refusals.{Explains}
use Rattle.ranging.specs.Causes.{GivesUp}
use Rattle.ranging.specs.Inner.Found.{AreWorked, AreWorkedAt, GivesUpAt}
use Rattle.ranging.proofs.Reached.{explained, told_on}
use Rattle.ranging.proofs.factors.over_factors.Goals as goal

pub returns-in_err-solved-clause-refusal : goal.returns-in_err-solved-clause-refusal
returns-in_err-solved-clause-refusal g c =
    let inst = c.args.inst.now in
    let log = c.args.log.now in
    let s = c.in_ok-state.state in
    let w = g.A.Arith.width c.args.arith.now in
    handed_on c.from_residual-in_err-solved.result (Explains (GivesUpAt w inst log)) c.from_residual-in_err-solved.ensures.1
    (told_on (GivesUp w inst s) (GivesUpAt w inst log) (λ h. (s, c.in_ok-state.ensures, h)) _ c.in_err-solved.ensures.refusal)

pub returns-clause-worked : goal.returns-clause-worked
returns-clause-worked g c =
    let inst = c.args.inst.now in
    let s = c.in_ok-state.state in
    let w = g.A.Arith.width c.args.arith.now in
    IfOk-weaker c.by_positions.result (AreWorked w inst s) (AreWorkedAt w inst c.args.log.now) (λ limits h. (s, c.in_ok-state.ensures, h))
    (subst (λ v. IfOk c.by_positions.result (AreWorked v inst s)) c.solve_once.ensures.width c.by_positions.ensures.worked)

pub returns-clause-refusal : goal.returns-clause-refusal
returns-clause-refusal g c =
    let inst = c.args.inst.now in
    let s = c.in_ok-state.state in
    let w = g.A.Arith.width c.args.arith.now in
    explained (GivesUp w inst s) (GivesUpAt w inst c.args.log.now) (λ h. (s, c.in_ok-state.ensures, h)) c.by_positions.result
    (subst (λ v. IfErr c.by_positions.result (Explains (GivesUp v inst s))) c.solve_once.ensures.width c.by_positions.ensures.refusal)
