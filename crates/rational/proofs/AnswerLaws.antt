-- What calculations answer, one after another.
use Rattle.std.proofs.Common.{◌≡◌, Bool, true, false, cond, refl, ◌∙◌, ap}
use Rattle.rational.specs.Rational.{ℚ, zero_ℚ, ◌-ℚ◌, ◌*ℚ◌}
use Rattle.rational.specs.Worked.{Worked, bind, done, less_unless, work}
use Rattle.rational.proofs.RationalRing.{ring_ℚ}
use Rattle.rational.proofs.Ring.{◌≐◌, ◌⊖◌, ◌⊗◌, 𝟘}
use Rattle.rational.proofs.Settling.{less_answer, less_unless-in, less_unless-out}

pub answer-bind : {A B : Type 0} (c : Worked A) (f : A → Worked B) → (bind c f).answer ≡ (f c.answer).answer
unfolding bind
answer-bind c f = refl

pub answer-done : {A : Type 0} (a : A) → (done a).answer ≡ a
unfolding done
answer-done a = refl

pub answer-work : (a : ℚ) → (work a).answer ≡ a
unfolding work
answer-work a = refl

pub answer-less_unless : (out : Bool) (x a b : ℚ) → (less_unless out x a b).answer ≡ x -ℚ cond out zero_ℚ a *ℚ b
answer-less_unless true x a b =
    ap (λ (c : Worked ℚ). c.answer) (less_unless-out true x a b refl) ∙ answer-done x ∙ ring_ℚ 2 (λ x b. x ≐ x ⊖ 𝟘 ⊗ b) tt x b
answer-less_unless false x a b = ap (λ (c : Worked ℚ). c.answer) (less_unless-in false x a b refl) ∙ less_answer x a b
