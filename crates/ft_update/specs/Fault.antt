-- Why an update is refused: a worked value does not fit the width. Want of memory is free.
use Rattle.std.specs.Prelude.{◌≡◌, ℕ, None, Result, Ok, Err}
use Rattle.rational.specs.Worked.{Worked, settle}
use Rattle.exact_frac.specs.Count.{raised}
use Rattle.ft_update.specs.declared.fault.UpdateFault.{UpdateFault}
use Rattle.ft_update.specs.declared.fault.UpdateFault.TheVariants.{Memory, Unfit}

-- a refusal for an unfit value comes where the calculation does not settle
abbrev pub IsCause : {A : Type 0} → ℕ → Worked A → UpdateFault → Type 0
IsCause w c Memory = Unit {0}
IsCause w c Unfit = settle w c ≡ None

-- the count of unfit results after a call: raised by one exactly at a refusal for an unfit value
abbrev pub count_after : {A : Type 0} → ℕ → Result A UpdateFault → ℕ
count_after count (Ok answer) = count
count_after count (Err Memory) = count
count_after count (Err Unfit) = raised count 1
