-- What is read of a deck's numbers says of them.
use Rattle.std.proofs.Common.{◌≡◌, Bool, Option, None, Some, refl, sym, ap, ◌∙◌}
use Rattle.std.proofs.Common.{int_eq, nat_eq}
use Rattle.std.specs.Prelude.{◌↔◌, ◌&&◌, IsTrue}
use Rattle.deck_model.specs.declared.end.End.{End}
use Rattle.deck_model.specs.End.{ends_of, finite_end, lower_end, upper_end}
use Rattle.lp_model.specs.Deck.{Interval}
use Rattle.rational.specs.Rational.{ℚ, eq_ℚ, zero_ℚ}
use Rattle.rational.proofs.OrderLaws.{eq_ℚ-tested}

-- whether the number that was read is 0
pub zero_tested : (r b : Bool) (v u : ℚ) → IsTrue r ↔ (v ≡ zero_ℚ) → v ≡ u → r ≡ b → eq_ℚ u zero_ℚ ≡ b
zero_tested r b v u test is answer = ap (λ x. eq_ℚ x zero_ℚ) (sym is) ∙ eq_ℚ-tested r v test ∙ answer

-- whether two numbers that were read are equal
pub eq_read : (a b : ℚ) (r : Bool) → r ≡ (int_eq a.numerator b.numerator && nat_eq a.denominator b.denominator) → eq_ℚ a b ≡ r
unfolding eq_ℚ
eq_read a b r is = sym is

finite-lower : (end : Option ℚ) → finite_end (lower_end end) ≡ end
finite-lower None = refl
finite-lower (Some v) = refl

finite-upper : (end : Option ℚ) → finite_end (upper_end end) ≡ end
finite-upper None = refl
finite-upper (Some v) = refl

-- the numbers of the ends that were read
pub lower_read : (ends : End × End) (bounds : Interval) (v : Option ℚ) → ends ≡ ends_of bounds → v ≡ finite_end ends.0 → v ≡ bounds.lower
lower_read ends bounds v read is = is ∙ ap (λ (e : End × End). finite_end e.0) read ∙ finite-lower bounds.lower

pub upper_read : (ends : End × End) (bounds : Interval) (v : Option ℚ) → ends ≡ ends_of bounds → v ≡ finite_end ends.1 → v ≡ bounds.upper
upper_read ends bounds v read is = is ∙ ap (λ (e : End × End). finite_end e.1) read ∙ finite-upper bounds.upper
