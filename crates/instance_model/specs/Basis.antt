-- The basis that a state tells.
use Rattle.std.specs.Prelude.{Bool, true, false, length}
use Rattle.std.specs.List.{filter}
use Rattle.lp_model.specs.Basis.{Basis}
use Rattle.lp_model.specs.declared.Status.{Status}
use Rattle.lp_model.specs.declared.Status.TheVariants as status
use Rattle.lp_run.specs.State.{State, status_of}
use Rattle.rational.specs.Sparse.{upto}

abbrev pub is_at_upper : Status → Bool
is_at_upper status.Upper = true
is_at_upper status.Basic = false
is_at_upper status.Lower = false
is_at_upper status.Zero = false

-- the basic columns by position and, rising, the nonbasic columns that stand at their upper ends
abbrev pub basis_of : State → Basis
basis_of s = record { basic = s.basis; upper = filter (λ j. is_at_upper (status_of s j)) (upto (length s.statuses)) }
