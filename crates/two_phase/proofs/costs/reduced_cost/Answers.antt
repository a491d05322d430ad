use Rattle.std.proofs.Common.{◌<◌, sym, ◌∙◌, subst}
use Rattle.exact_frac.specs.Constants.{ratio-zero}
use Rattle.bland_laws.proofs.Always.{instance_holds}
use Rattle.two_phase.proofs.Refactoring.{basic_cost, worked_cost}
use Rattle.two_phase.proofs.costs.reduced_cost.Goals as goal

pub status-requires : goal.status-requires
status-requires g c =
    let inst = c.args.inst.now in
    let s = c.args.state.now in
    let h = c.requires.reached in
    subst (λ n. c.args.j < n) (sym (instance_holds inst h.0 h.1.0 s h.1.1).each) c.requires.column

pub returns-in-Basic-clause-cost : goal.returns-in-Basic-clause-cost
returns-in-Basic-clause-cost g c =
    let a = c.args in
    ratio-zero ∙ basic_cost a.inst.now a.state.now c.requires.reached a.prices.now c.requires.prices a.j c.requires.column (sym c.status.ensures ∙ c.in-Basic.is)

pub returns-clause-cost : goal.returns-clause-cost
returns-clause-cost g c =
    let a = c.args in
    worked_cost a.inst.now a.state.now c.requires.reached a.prices.now c.requires.prices a.j c.requires.column (g.A.Arith.width a.arith.now) c.phase.result c.in_ok-cost.cost c.phase.ensures c.in_ok-cost.ensures.settled
