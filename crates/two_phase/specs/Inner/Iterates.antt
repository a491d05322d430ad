-- Iterates: a state of the run with factors of its basis, its basic values, its prices where they are worked, and room for the next step.
use Rattle.std.specs.Prelude.{◌≡◌, ℕ, ◌<◌, ◌≤◌, ◌^◌, List, length, None, Bool, false, true}
use Rattle.lp_model.specs.declared.Entry.{Entry}
use Rattle.rational.specs.Rational.{ℚ}
use Rattle.rational.specs.Worked.{settle}
use Rattle.lp_run.specs.Instance.{Instance, row_count}
use Rattle.lp_run.specs.Run.{IsRun}
use Rattle.lp_run.specs.Solution.{ColumnOf, Prices, Values, basis_entry}
use Rattle.lp_run.specs.State.{after, rest}
use Rattle.plain_table.specs.Inner.Values.{AreMoved}
use Rattle.factor_model.specs.Eta.{apply}
use Rattle.factor_model.specs.Factors.{AreFactors, btran, most_updates}
use Rattle.factor_model.specs.Upper.{Solves}
use Rattle.factor_run.specs.Built.{entering_column}
use Rattle.factor_run.specs.Calm.{basic_costs}
use Rattle.two_phase.specs.declared.decision.Decision.{Decision}
use Rattle.two_phase.specs.declared.iterate.Iterate.{Iterate}
use Rattle.two_phase.specs.Inner.Decisions.{IsDecided}

-- each list has m items
pub record IsSized (m : ℕ) (it : Iterate) : Type 0 where
  pub prices : length it.prices.items ≡ m
  pub alpha : length it.alpha.items ≡ m
  pub spike : length it.spike.items ≡ m
  pub spare : length it.spare.items ≡ m
  pub few : m < 2 ^ 32

-- the log leads to the iterate's state, whose basis the factors are of, with no more updates than they may have; the values and prices are the state's
pub record IsIterate (w : ℕ) (inst : Instance) (log : List Entry) (it : Iterate) : Type 0 where
  pub reached : IsRun inst log it.state
  pub factors : AreFactors (row_count inst) it.factors (basis_entry inst it.state)
  pub few : it.factors.updates ≤ most_updates
  pub values : Values inst it.state it.values.items
  pub prices : it.is_priced ≡ true → Prices inst it.state it.prices.items
  pub sized : IsSized (row_count inst) it

-- at some state of the run
abbrev pub IsIterateOf : ℕ → Instance → Iterate → Type 0
IsIterateOf w inst it = (log : List Entry) × IsIterate w inst log it

-- the prices are yet to be worked, and a value that is worked for them does not fit
abbrev pub HasUnfitPrices : ℕ → Instance → Iterate → Type 0
HasUnfitPrices w inst it = (it.is_priced ≡ false) × (settle w (btran it.factors (basic_costs inst it.state)) ≡ None)

-- nothing but the prices and the room may have changed
pub record IsKept (old new : Iterate) : Type 0 where
  pub state : new.state ≡ old.state
  pub factors : new.factors ≡ old.factors
  pub values : new.values.items ≡ old.values.items

-- column q is solved for and decided: `alpha` is the column in terms of the basis, and `spike` what the operations make of it
pub record IsEntered (inst : Instance) (q : ℕ) (it : Iterate) (d : Decision) : Type 0 where
  pub column : ColumnOf inst it.state q it.alpha.items
  pub spike : it.spike.items ≡ (apply (entering_column inst q) it.factors.etas).answer
  pub form : Solves it.factors.upper it.alpha.items it.spike.items
  pub decided : IsDecided inst it.state it.values.items it.prices.items it.alpha.items q d

-- the basic values after a move of column q are in the spare list
abbrev pub AreWorked : Instance → ℕ → ℕ → Bool → ℚ → Iterate → Iterate → Type 0
AreWorked inst p q down r old new = AreMoved p down (rest inst old.state q) r old.values.items old.alpha.items new.spare.items

-- nothing but the spare list has changed
pub record IsSpared (old new : Iterate) : Type 0 where
  pub state : new.state ≡ old.state
  pub factors : new.factors ≡ old.factors
  pub values : new.values ≡ old.values
  pub prices : new.prices ≡ old.prices
  pub is_priced : new.is_priced ≡ old.is_priced
  pub alpha : new.alpha ≡ old.alpha
  pub spike : new.spike ≡ old.spike
  pub spare : length new.spare.items ≡ length old.spare.items

-- the entry is taken in: the spare list has become the basic values, and the prices are not worked
pub record IsTaken (e : Entry) (old new : Iterate) : Type 0 where
  pub state : new.state ≡ after old.state e
  pub factors : new.factors ≡ old.factors
  pub values : new.values ≡ old.spare
  pub spare : new.spare ≡ old.values
  pub unpriced : new.is_priced ≡ false
  pub prices : new.prices ≡ old.prices
  pub alpha : new.alpha ≡ old.alpha
  pub spike : new.spike ≡ old.spike

-- nothing but the factors has changed
pub record HasFollowed (old new : Iterate) : Type 0 where
  pub state : new.state ≡ old.state
  pub values : new.values ≡ old.values
  pub prices : new.prices ≡ old.prices
  pub is_priced : new.is_priced ≡ old.is_priced
  pub alpha : new.alpha ≡ old.alpha
  pub spike : new.spike ≡ old.spike
  pub spare : new.spare ≡ old.spare
