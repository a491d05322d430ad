-- What a regular state has once.
use Rattle.lp_run.specs.Instance.{Instance}
use Rattle.lp_run.specs.Solution.{Regular}
use Rattle.lp_run.specs.State.{State}
use Rattle.lp_run.proofs.Regularity.{one_column, one_prices, one_values}
use Rattle.lp_run.proofs.Unique.{no_next_at_end, one_next}
use Rattle.bland_laws.specs.Unique.{Unique}

pub unique : (inst : Instance) (s : State) → Regular inst s → Unique inst s
unique inst s regular = record {
  prices = one_prices inst s regular;
  values = one_values inst s regular;
  column = one_column inst s regular;
  next = one_next inst s regular;
  none_at_end = no_next_at_end inst s regular;
}
