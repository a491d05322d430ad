-- Why a part of the work stops: a worked value does not fit. Want of memory is free.
use Rattle.std.specs.Prelude.{◌≡◌, ℕ, None}
use Rattle.rational.specs.Worked.{Worked, settle}
use Rattle.markowitz_lu.specs.declared.fault.LuFault.{LuFault}
use Rattle.markowitz_lu.specs.declared.fault.LuFault.TheVariants.{Memory, Unfit, Singular}

abbrev pub Stops : {A : Type 0} → ℕ → Worked A → LuFault → Type 0
Stops w c Memory = Unit {0}
Stops w c Unfit = settle w c ≡ None
Stops w c (Singular y) = ⊥
