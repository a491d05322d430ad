use Rattle.std.proofs.Common.{sym, ◌∙◌, subst}
use Rattle.rational.specs.Sum.{at}
use Rattle.exact_frac.specs.Settles.{Leaves}
use Rattle.lp_run.specs.Instance.{row_count}
use Rattle.lp_run.specs.Solution.{basis_entry}
use Rattle.factor_model.specs.Factors.{AreFactors, IsRowSolution, btran}
use Rattle.factor_run.proofs.Bases.{solved_prices}
use Rattle.plain_table.proofs.Makings.{on_ok}
use Rattle.basis_solves.proofs.Solving.{costs_are}
use Rattle.basis_solves.proofs.solves.solve_prices.Goals as goal

pub returns-clause-settled : goal.returns-clause-settled
returns-clause-settled g c =
    let a = c.args in
    let is = costs_are a.inst.now a.state.now c.phase.result c.phase.ensures c.basic_costs.new.out (c.basic_costs.auto.out ∙ c.requires.costs) c.requires.positions c.basic_costs.ensures in
    subst (λ c'. Leaves (g.A.Arith.width a.arith.now) (btran a.factors.now c') c.btran.result c.btran.new.out) is c.btran.ensures.settled

pub returns-clause-prices : goal.returns-clause-prices
returns-clause-prices g c factors =
    let a = c.args in
    let n = row_count a.inst.now in
    let is = costs_are a.inst.now a.state.now c.phase.result c.phase.ensures c.basic_costs.new.out (c.basic_costs.auto.out ∙ c.requires.costs) c.requires.positions c.basic_costs.ensures in
    let b = basis_entry a.inst.now a.state.now in
    on_ok c.btran.result
    (λ h. solved_prices a.inst.now a.state.now c.basic_costs.new.out c.btran.new.out (c.btran.auto.out ∙ c.requires.out) is
    (subst (λ n. IsRowSolution n b (at c.basic_costs.new.out) c.btran.new.out) c.requires.size h))
    (c.btran.ensures.solves b (subst (λ n. AreFactors n a.factors.now b) (sym c.requires.size) factors))
