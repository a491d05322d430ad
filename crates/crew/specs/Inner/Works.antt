-- What a solve without an outcome has worked, and why it may have none where no value is too wide.
use Rattle.std.specs.Prelude.{ℕ, ◌≤◌}
use Rattle.exact_frac.specs.Count.{raised}
use Rattle.crew.specs.declared.faults.CrewFault.{CrewFault}
use Rattle.crew.specs.declared.faults.CrewFault.TheVariants as fault

-- for want of memory, or since the budget is spent
abbrev pub IsCalmFault : CrewFault → Type 0
IsCalmFault fault.Memory = Unit {0}
IsCalmFault (fault.Overflow here) = ⊥
IsCalmFault (fault.Budget n) = Unit {0}

-- an overflow has raised the count of unfit results, where it is not at its end
abbrev pub HasRisen : ℕ → ℕ → CrewFault → Type 0
HasRisen before after fault.Memory = Unit {0}
HasRisen before after (fault.Overflow here) = raised before 1 ≤ after
HasRisen before after (fault.Budget n) = Unit {0}
