use Rattle.std.proofs.Common.{◌≡◌}
use Rattle.std.specs.List.{filter}
use Rattle.rational.specs.Sparse.{upto}
use Rattle.lp_run.specs.Instance.{equations_of}
use Rattle.instance_model.specs.Inner.Starts.{starts_off}
use Rattle.instance_model.proofs.start_sums.columns_off_zero.Given as goal

abbrev pub invariant-loop-j : goal.invariant-loop-j
invariant-loop-j l = l.columns.items ≡ filter (starts_off (equations_of l.deck)) (upto l.j)
