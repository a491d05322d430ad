use Rattle.two_phase.proofs.Iterating.{iterate_basis}
use Rattle.two_phase.proofs.iterate.Iterate.price.Goals as goal

pub solve_prices-requires-clause-positions : goal.solve_prices-requires-clause-positions
solve_prices-requires-clause-positions g c κs within = (iterate_basis _ c.args.inst.now c.args.self.now c.requires).positions

pub solve_prices-requires-clause-within : goal.solve_prices-requires-clause-within
solve_prices-requires-clause-within g c κs within = (iterate_basis _ c.args.inst.now c.args.self.now c.requires).in_range
