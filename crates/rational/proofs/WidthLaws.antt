-- Whether a fraction fits a width: the test answers it, and a greater width takes all that a smaller one does.
use Rattle.std.proofs.Common.{◌≡◌, ℕ, ◌^◌, ◌≤◌, nat_abs, Bool, true, false, ltb, lt-ltb, refl, ap₂, arith}
use Rattle.std.specs.Prelude.{◌&&◌}
use Rattle.std.specs.Bool.{Decides}
use Rattle.std.proofs.lemmas.Bool.{and_parts, ltb-true}
use Rattle.std.proofs.Math.Nat.{pow-le-pow_right}
use Rattle.rational.specs.Rational.{ℚ}
use Rattle.rational.specs.Width.{FitsWidth, fits_width}

pub fits_width-decides : (w : ℕ) (a : ℚ) → Decides (fits_width w a) (FitsWidth w a)
unfolding fits_width
fits_width-decides w a = (
  λ e. let parts = and_parts (ltb (nat_abs a.numerator) (2 ^ w)) (ltb a.denominator (2 ^ w)) e in
      record { numerator_below = ltb-true _ _ parts.0; denominator_below = ltb-true _ _ parts.1 },
  λ h. ap₂ ◌&&◌ (lt-ltb _ _ h.numerator_below) (lt-ltb _ _ h.denominator_below),
)

pub fits_from_test : (w : ℕ) (a : ℚ) → fits_width w a ≡ true → FitsWidth w a
fits_from_test w a e = (fits_width-decides w a).0 e

pub unfit_tested : (w : ℕ) (a : ℚ) → ¬ FitsWidth w a → fits_width w a ≡ false
unfit_tested w a unfit = by_test (fits_width w a) refl
  where
    by_test : (b : Bool) → fits_width w a ≡ b → b ≡ false
    by_test true e = absurd (unfit (fits_from_test w a e))
    by_test false e = refl

-- what fits a width fits a greater one
pub fits_wider : (v w : ℕ) (a : ℚ) → v ≤ w → FitsWidth v a → FitsWidth w a
fits_wider v w a h f =
    let more : 2 ^ v ≤ 2 ^ w = pow-le-pow_right (omega arith) h in
    let top = f.numerator_below in
    let bottom = f.denominator_below in
    record { numerator_below = omega arith; denominator_below = omega arith }
