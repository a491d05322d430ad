use Rattle.std.proofs.Common.{◌≡◌}
use Rattle.std.specs.List.{filter}
use Rattle.rational.specs.Sparse.{upto}
use Rattle.lp_run.specs.State.{status_of}
use Rattle.instance_model.specs.Basis.{is_at_upper}
use Rattle.instance_model.proofs.basis.columns_at_upper.Given as goal

abbrev pub invariant-loop-column : goal.invariant-loop-column
invariant-loop-column l = l.columns.items ≡ filter (λ j. is_at_upper (status_of l.state j)) (upto l.column)
