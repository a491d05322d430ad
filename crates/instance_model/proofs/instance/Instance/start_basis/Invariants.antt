use Rattle.std.proofs.Common.{◌≡◌, map}
use Rattle.lp_run.specs.State.{start_basic}
use Rattle.rational.specs.Sparse.{upto}
use Rattle.instance_model.proofs.instance.Instance.start_basis.Given as goal

abbrev pub invariant-loop-row : goal.invariant-loop-row
invariant-loop-row l = l.basis.items ≡ map (start_basic l.self) (upto l.row)
