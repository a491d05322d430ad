use Rattle.std.proofs.Common.{◌≡◌, None, Some, sym, ◌∙◌, subst}
use Rattle.rational.proofs.Settling.{settle-answer}
use Rattle.rational.specs.Worked.{settle}
use Rattle.bland_ratio.specs.Pricing.{priced}
use Rattle.bland_ratio.proofs.Priced.{priced-answer}
use Rattle.plain_table.proofs.Coming.{handed_on}
use Rattle.basis_solves.specs.Refusals.{Explains}
use Rattle.ranging.specs.Causes.{GivesUp, cost}
use Rattle.ranging.proofs.Reached.{reached_kept}
use Rattle.ranging.proofs.factors.reduced_cost.Goals as goal

pub is_looked_at-requires-clause-statuses : goal.is_looked_at-requires-clause-statuses
is_looked_at-requires-clause-statuses g c = (reached_kept c.args.inst.now c.args.state.now c.requires.reached).valid.columns

pub returns-in_err-cost-clause-refusal : goal.returns-in_err-cost-clause-refusal
returns-in_err-cost-clause-refusal g c =
    let inst = c.args.inst.now in
    let s = c.args.state.now in
    let w = g.A.Arith.width c.args.arith.now in
    handed_on c.from_residual.result (Explains (GivesUp w inst s)) c.from_residual.ensures.1
    (cost c.args.prices.now c.args.k c.requires.prices c.requires.column
    (subst (λ phase. settle w (priced inst phase c.args.prices.now c.args.k) ≡ None) c.phase.ensures c.in_err-cost.ensures.settled))

pub returns-clause-cost : goal.returns-clause-cost
returns-clause-cost g c looked =
    let inst = c.args.inst.now in
    let s = c.args.state.now in
    let w = g.A.Arith.width c.args.arith.now in
    let settled = subst (λ phase. settle w (priced inst phase c.args.prices.now c.args.k) ≡ Some c.in_ok-cost.cost) c.phase.ensures c.in_ok-cost.ensures.settled in
    sym (settle-answer w (priced inst s.phase c.args.prices.now c.args.k) c.in_ok-cost.cost settled) ∙ priced-answer inst c.requires.reached.0 s c.args.prices.now c.args.k c.requires.column
