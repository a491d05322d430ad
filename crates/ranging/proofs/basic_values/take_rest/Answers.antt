use Rattle.std.proofs.Common.{◌<◌, length, ap, subst, sym}
use Rattle.rational.specs.Rational.{ℚ}
use Rattle.sparse_cols.specs.Sparse.{Sparse}
use Rattle.bland_ratio.proofs.Priced.{gathers}
use Rattle.ranging.proofs.Reached.{reached_kept}
use Rattle.ranging.proofs.basic_values.take_rest.Goals as goal

pub rest_of-value-requires-clause-status : goal.rest_of-value-requires-clause-status
rest_of-value-requires-clause-status g c =
    subst (λ n. c.args.j < n) (sym (reached_kept c.args.inst.now c.args.state.now c.requires.reached).valid.columns) c.requires.column

pub subtract-requires-after_bounds : goal.subtract-requires-after_bounds
subtract-requires-after_bounds g c κs within =
    gathers c.args.inst.now c.requires.reached.0 c.args.j c.in-Structural.k (length c.args.out.now) c.entries.result.now.pairs c.requires.column c.in-Structural.ensures c.requires.out
    (ap (λ (entries : Sparse ℚ). entries.pairs) c.entries.ensures)
