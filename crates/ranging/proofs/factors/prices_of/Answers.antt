use Rattle.plain_table.proofs.Coming.{handed_on}
use Rattle.basis_solves.specs.Refusals.{Explains}
use Rattle.ranging.specs.Causes.{GivesUp, prices}
use Rattle.ranging.proofs.Reached.{reached_kept}
use Rattle.ranging.proofs.factors.prices_of.Goals as goal

pub solve_prices-requires-clause-positions : goal.solve_prices-requires-clause-positions
solve_prices-requires-clause-positions g c _ _ = (reached_kept c.args.inst.now c.args.state.now c.requires.reached).valid.positions

pub solve_prices-requires-clause-within : goal.solve_prices-requires-clause-within
solve_prices-requires-clause-within g c _ _ = (reached_kept c.args.inst.now c.args.state.now c.requires.reached).valid.in_range

pub returns-in_err-solve_prices-clause-refusal : goal.returns-in_err-solve_prices-clause-refusal
returns-in_err-solve_prices-clause-refusal g c =
    handed_on c.from_residual-in_err-solve_prices.result (Explains (GivesUp (g.A.Arith.width c.args.arith.now) c.args.inst.now c.args.state.now)) c.from_residual-in_err-solve_prices.ensures.1
    (prices c.args.factors.now c.requires.made.made c.in_err-solve_prices.ensures.settled)
