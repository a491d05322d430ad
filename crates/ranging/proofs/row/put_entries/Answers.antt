use Rattle.std.proofs.Common.{◌<◌, subst, sym}
use Rattle.plain_table.proofs.Coming.{handed_on}
use Rattle.basis_solves.specs.Refusals.{Explains}
use Rattle.ranging.specs.Causes.{GivesUp, crossing}
use Rattle.ranging.specs.Inner.Solves.{IsUncrossed}
use Rattle.ranging.proofs.Reached.{reached_kept}
use Rattle.ranging.proofs.row.put_entries.Goals as goal

pub basic-requires : goal.basic-requires
basic-requires g c = subst (λ n. c.args.p < n) (sym (reached_kept c.args.inst.now c.args.state.now c.requires.reached).valid.positions) c.requires.position

pub returns-in_err-row-clause-refusal : goal.returns-in_err-row-clause-refusal
returns-in_err-row-clause-refusal g c =
    let inst = c.args.inst.now in
    let s = c.args.state.now in
    let w = g.A.Arith.width c.args.arith.now in
    let cause = subst (λ v. IsUncrossed v inst c.args.rates.now c.loop-k.k) c.loop-k.invariant.width c.in_err-row.ensures.cause in
    handed_on c.from_residual.result (Explains (GivesUp w inst s)) c.from_residual.ensures.1 (crossing c.args.p c.loop-k.k c.args.rates.now c.requires.position c.requires.rates cause.0 cause.1)
