-- What the making of an instance answers.
use Rattle.std.specs.Prelude.{◌≡◌, ℕ, Some, Result, Ok, Err, MatchResult}
use Rattle.exact_frac.specs.Count.{raised}
use Rattle.lp_model.specs.Deck.{Deck}
use Rattle.lp_run.specs.Instance.{Instance, instance_of}
use Rattle.lp_run.specs.Listing.{StartFits, first_unfit, start_listing}
use Rattle.instance_model.specs.declared.making.InstanceFault.{InstanceFault}
use Rattle.instance_model.specs.declared.making.InstanceFault.TheVariants as fault

-- the place of the first start sum that does not fit; want of memory has no cause
abbrev pub Refuses : ℕ → Deck → InstanceFault → Type 0
Refuses w d fault.Memory = Unit {0}
Refuses w d (fault.Overflow here) = first_unfit w (start_listing (instance_of d)) ≡ Some here

-- the instance of the deck, where all start sums fit; or why there is none
abbrev pub MakesInstance : ℕ → Deck → Result Instance InstanceFault → Type 0
MakesInstance w d result = MatchResult result (λ inst. (inst ≡ instance_of d) × StartFits w (instance_of d)) (Refuses w d)

-- the count of unfit results after a making: raised by one exactly at an overflow
abbrev pub unfit_after_making : {A : Type 0} → ℕ → Result A InstanceFault → ℕ
unfit_after_making count (Ok made) = count
unfit_after_making count (Err fault.Memory) = count
unfit_after_making count (Err (fault.Overflow here)) = raised count 1
