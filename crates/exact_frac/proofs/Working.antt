-- An operation of an arithmetic works one value.
use Rattle.std.proofs.Common.{ℕ, Result, Ok, Err, Some, sym, ap, ◌∙◌}
use Rattle.rational.specs.Rational.{ℚ}
use Rattle.rational.specs.Worked.{work}
use Rattle.rational.proofs.Settling.{settle-work, settle-work_none}
use Rattle.exact_frac.specs.declared.unfit.Unfit.{Unfit}
use Rattle.exact_frac.specs.Exact.{Exact}
use Rattle.exact_frac.specs.Settles.{Settles}

pub settles-exact : (w : ℕ) (a : ℚ) (result : Result ℚ Unfit) → Exact w a result → Settles w (work a) result
settles-exact w a (Ok answer) exact = settle-work w a exact.1 ∙ ap Some (sym exact.0)
settles-exact w a (Err unfit) exact = settle-work_none w a exact
