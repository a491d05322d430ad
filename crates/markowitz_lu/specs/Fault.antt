-- Why a matrix is not factored: a worked value does not fit the width, or its columns are dependent. Want of memory is free.
use Rattle.std.specs.Prelude.{◌≡◌, ℕ, Some, None, Result, Ok, Err}
use Rattle.rational.specs.Rational.{ℚ}
use Rattle.rational.specs.Worked.{Worked, settle}
use Rattle.exact_frac.specs.Count.{raised}
use Rattle.factor_model.specs.Factoring.{Factored, IsDependence, singular}
use Rattle.markowitz_lu.specs.declared.fault.LuFault.{LuFault}
use Rattle.markowitz_lu.specs.declared.fault.LuFault.TheVariants.{Memory, Unfit, Singular}

-- a refusal for an unfit value comes where the calculation does not settle, and one for dependent columns has the combination to which it settles
abbrev pub IsCause : ℕ → Worked Factored → LuFault → Type 0
IsCause w c Memory = Unit {0}
IsCause w c Unfit = settle w c ≡ None
IsCause w c (Singular y) = settle w c ≡ Some (singular y.items)

-- the combination of a refusal for dependent columns is 0, and its numbers are not all 0
abbrev pub IsDependent : ℕ → (ℕ → ℕ → ℚ) → LuFault → Type 0
IsDependent n b Memory = Unit {0}
IsDependent n b Unfit = Unit {0}
IsDependent n b (Singular y) = IsDependence n b y.items

-- the count of unfit results after a call: raised by one exactly at a refusal for an unfit value
abbrev pub count_after : {A : Type 0} → ℕ → Result A LuFault → ℕ
count_after count (Ok answer) = count
count_after count (Err Memory) = count
count_after count (Err Unfit) = raised count 1
count_after count (Err (Singular y)) = count
