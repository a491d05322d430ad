use Rattle.std.proofs.Common.{◌≡◌}
use Rattle.std.proofs.lemmas.Result.{err_from_is_err_and, MatchResult-at_err}
use Rattle.rational.specs.Rational.{ℚ}
use Rattle.rational.specs.Width.{FitsWidth}
use Rattle.rational.proofs.WidthLaws.{fits_wider}
use Rattle.exact_frac.proofs.narrow.narrowed.Goals as goal

pub returns-in_err-value : goal.returns-in_err-value
returns-in_err-value c = λ value exact.
    let p = err_from_is_err_and c.from_residual.result c.from_residual.ensures.1 in
    let unfit : ¬ FitsWidth 127 value = MatchResult-at_err (λ (r : ℚ). (r ≡ value) × FitsWidth 127 value) (λ _. ¬ FitsWidth 127 value) _ c.in_err-value.was exact in
    rw p.1 (λ (f : FitsWidth c.args.bits value). unfit (fits_wider c.args.bits 127 value c.requires f))
