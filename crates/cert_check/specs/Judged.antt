-- What the checker answers.
use Rattle.std.specs.Prelude.{◌≡◌, ℕ, List, Some, None, Result, Ok, Err}
use Rattle.exact_frac.specs.Count.{raised}
use Rattle.cert_check.specs.declared.verdict.Verdict.{Verdict}
use Rattle.cert_check.specs.declared.verdict.Verdict.TheVariants.{Yes, No}
use Rattle.cert_check.specs.declared.verdict.CheckFault.{CheckFault}
use Rattle.cert_check.specs.declared.verdict.CheckFault.TheVariants.{Memory, Overflow}
use Rattle.cert_check.specs.declared.verdict.Stop.TheVariants.{Broken, Unfit}
use Rattle.cert_check.specs.Walk.{Item, first_stop}

-- it accepts exactly where nothing stops the walk; else it names the rule of the first item that does
abbrev pub Judges : ℕ → List Item → Result Verdict CheckFault → Type 0
Judges w items (Ok Yes) = first_stop w items ≡ None
Judges w items (Ok (No rule)) = first_stop w items ≡ Some (Broken rule)
Judges w items (Err (Overflow rule)) = first_stop w items ≡ Some (Unfit rule)
Judges w items (Err Memory) = Unit {0}

-- the count of unfit results after a check: raised by one exactly where a value does not fit
abbrev pub unfit_after_check : ℕ → Result Verdict CheckFault → ℕ
unfit_after_check count (Ok verdict) = count
unfit_after_check count (Err (Overflow rule)) = raised count 1
unfit_after_check count (Err Memory) = count
