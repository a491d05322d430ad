-- Why a step with factors was not worked, and how it counts.
use Rattle.std.specs.Prelude.{ℕ, Result, Ok, Err}
use Rattle.exact_frac.specs.Count.{raised}
use Rattle.basis_solves.specs.declared.refusal.Refusal.{Refusal}
use Rattle.basis_solves.specs.declared.refusal.Refusal.TheVariants as refusal

-- a refusal for an unfit value comes only for that cause; want of memory has none
abbrev pub Explains : Type 0 → Refusal → Type 0
Explains cause refusal.Memory = Unit {0}
Explains cause refusal.Unfit = cause

-- the count of unfit results after a call: raised by one exactly at a refusal for an unfit value
abbrev pub count_after : {A : Type 0} → ℕ → Result A Refusal → ℕ
count_after count (Ok answer) = count
count_after count (Err refusal.Memory) = count
count_after count (Err refusal.Unfit) = raised count 1
