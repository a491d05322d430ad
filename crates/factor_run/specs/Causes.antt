-- Why a solver gives up the factors of a state: a value that it works there with them does not fit the width.
use Rattle.std.specs.Prelude.{◌≡◌, ℕ, ◌+◌, List, Some, None}
use Rattle.lp_model.specs.declared.Entry.{Entry}
use Rattle.lp_model.specs.declared.Place.{Place}
use Rattle.rational.specs.Rational.{ℚ}
use Rattle.rational.specs.Worked.{settle}
use Rattle.lp_run.specs.Instance.{Instance}
use Rattle.lp_run.specs.Listing.{Listed, MoveLists, first_unfit}
use Rattle.lp_run.specs.Solution.{Prices}
use Rattle.lp_run.specs.State.{State, after}
use Rattle.lp_run.specs.Step.{Enters, IsNext}
use Rattle.bland_ratio.specs.Pricing.{priced}
use Rattle.factor_model.specs.Factors.{Factors, btran, ftran}
use Rattle.factor_run.specs.Built.{entering_column, followed}
use Rattle.factor_run.specs.Calm.{basic_costs, without_table}

-- at the state s of number k, with these factors: the prices do not fit; the reduced cost of the entering column does not; the entering column
-- in terms of the basis does not; a distance, a ratio or a basic value of the move does not; the factors after the next entry do not
pub data Cause (w : ℕ) (inst : Instance) (k : ℕ) (s : State) (f : Factors) : Type 0 where
  prices : settle w (btran f (basic_costs inst s)) ≡ None → Cause w inst k s f
  cost : (y : List ℚ) (q : ℕ) → Prices inst s y → Enters inst s y q → settle w (priced inst s.phase y q) ≡ None → Cause w inst k s f
  column : (y : List ℚ) (q : ℕ) → Prices inst s y → Enters inst s y q → settle w (ftran f (entering_column inst q)) ≡ None → Cause w inst k s f
  move : (vs : List Listed) (here : Place) → MoveLists inst k s vs → first_unfit w (without_table vs) ≡ Some here → Cause w inst k s f
  factors : (e : Entry) → IsNext inst s e → settle w (followed inst (after s e) (k + 1) f e) ≡ None → Cause w inst k s f
