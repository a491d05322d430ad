-- What a run has worked so far: all of it fits, or the first value that does not has its place.
use Rattle.std.specs.Prelude.{◌≡◌, ℕ, List, Some}
use Rattle.lp_model.specs.declared.Entry.{Entry}
use Rattle.lp_model.specs.declared.Place.{Place}
use Rattle.lp_run.specs.Instance.{Instance}
use Rattle.lp_run.specs.Listing.{AllFit, Listed, StartFits, WorkedBefore, first_unfit}

-- the start sums fit the width, and all that is worked before the state that the log reaches
pub record HasFitted (w : ℕ) (inst : Instance) (log : List Entry) : Type 0 where
  pub start : StartFits w inst
  pub before : List Listed
  pub worked : WorkedBefore inst log before
  pub fits : AllFit w before

-- of all that is worked before the state that the log reaches, the first value that does not fit the width stands here
pub record HasOverflown (w : ℕ) (inst : Instance) (log : List Entry) (here : Place) : Type 0 where
  pub before : List Listed
  pub worked : WorkedBefore inst log before
  pub first : first_unfit w before ≡ Some here
