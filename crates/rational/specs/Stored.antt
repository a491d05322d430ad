-- A fraction is stored as its parts.
use Rattle.std.proofs.Common.{ℕ, ℤ}
use Rattle.std.specs.Coded.{Coded, code_by, coded×, coded_ℤ, coded_ℕ}
use Rattle.rational.specs.Rational.{ℚ, ratio}
use Rattle.rational.specs.Inner.Parts.{ratio-parts}

abbrev pub code_ℚ : Coded ℚ
code_ℚ = code_by (ℤ × ℕ) (coded× coded_ℤ coded_ℕ) (λ a. (a.numerator, a.denominator)) (λ p. ratio p.0 p.1) ratio-parts
