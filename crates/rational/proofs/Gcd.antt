-- Laws of the greatest common divisor, with Gauss's lemma.
use Rattle.std.proofs.Common.{◌≡◌, ℕ, zero, suc, ◌*◌, ◌-◌, ◌/◌, ◌%◌, ◌<◌, ◌≤◌, ◌⊎◌, inl, inr, refl, sym, ◌∙◌, ap, subst, arith}
use Rattle.std.specs.Int.{◌∣◌}
use Rattle.std.proofs.lemmas.Nat.Gcd.{same_from_IsGcd, dvd_refl, dvd_trans}
use Rattle.std.proofs.Math.Nat.{mul_comm, mul_assoc, mul-sub, mod_def, mul-div-mul_right, dvd-mul_right, dvd-zero, eq-zero-or-pos, mul-pos, zero-mul, one-mul, mul-le-mul_left, eq-one_of_dvd-one, div-mul_cancel}
use Rattle.rational.specs.Gcd.{gcd, gcd_within, IsCoprime}
use Rattle.rational.specs.Inner.Divisors.{IsGcd-gcd_within}
pub use Rattle.rational.specs.Inner.Divisors.{IsGcd-gcd, gcd_pos, coprime_after}

gcd_within-step : (steps a b : ℕ) → 0 < b → gcd_within (suc steps) a b ≡ gcd_within steps b (a % b)
unfolding gcd_within
gcd_within-step steps a zero some = absurd (omega arith)
gcd_within-step steps a (suc b) some = refl

mod-scaled : (a b c : ℕ) → 0 < c → (a * c) % (b * c) ≡ (a % b) * c
mod-scaled a b c some =
    mod_def (a * c) (b * c)
    ∙ ap (λ q. a * c - b * c * q) (mul-div-mul_right a b some)
    ∙ ap (λ t. a * c - t) (mul_assoc b c (a / b) ∙ ap (λ t. b * t) (mul_comm c (a / b)) ∙ sym (mul_assoc b (a / b) c))
    ∙ ap (λ t. t - b * (a / b) * c) (mul_comm a c)
    ∙ ap (λ t. c * a - t) (mul_comm (b * (a / b)) c)
    ∙ sym (mul-sub c a (b * (a / b)))
    ∙ mul_comm c (a - b * (a / b))
    ∙ ap (λ t. t * c) (sym (mod_def a b))

-- a common factor comes out
gcd_within-scaled : (steps a b c : ℕ) → 0 < c → gcd_within steps (a * c) (b * c) ≡ gcd_within steps a b * c
unfolding gcd_within
gcd_within-scaled zero a b c some = refl
gcd_within-scaled (suc steps) a zero c some = ap (gcd_within (suc steps) (a * c)) (zero-mul c)
gcd_within-scaled (suc steps) a (suc b) c some =
    gcd_within-step steps (a * c) (suc b * c) (mul-pos (omega arith) some)
    ∙ ap (gcd_within steps (suc b * c)) (mod-scaled a (suc b) c some)
    ∙ gcd_within-scaled steps (suc b) (a % suc b) c some

pub gcd-scaled : (a b c : ℕ) → 0 < c → gcd (a * c) (b * c) ≡ gcd a b * c
unfolding gcd gcd_within
gcd-scaled a b c some =
    let more : b * 1 ≤ b * c = mul-le-mul_left b some in
    gcd_within-scaled (suc (b * c)) a b c some
    ∙ ap (λ g. g * c) (same_from_IsGcd a b _ _ (IsGcd-gcd_within (suc (b * c)) a b (omega arith)) (IsGcd-gcd a b))

-- Gauss: what divides a product and is coprime to one factor divides the other
pub dvd_of_coprime : (a b c : ℕ) → IsCoprime a b → a ∣ b * c → a ∣ c
dvd_of_coprime a b c coprime divides =
    ⊎_elim' (eq-zero-or-pos c)
  where
    ⊎_elim' : (c ≡ 0) ⊎ (0 < c) → a ∣ c
    ⊎_elim' (inl e) = subst (λ n. a ∣ n) (sym e) (dvd-zero a)
    ⊎_elim' (inr some) =
        subst (λ n. a ∣ n) (gcd-scaled a b c some ∙ ap (λ g. g * c) coprime ∙ one-mul c)
        ((IsGcd-gcd (a * c) (b * c)).2 a (dvd-mul_right a c) divides)

pub gcd-comm : (a b : ℕ) → gcd a b ≡ gcd b a
gcd-comm a b =
    let g = IsGcd-gcd b a in
    same_from_IsGcd a b _ _ (IsGcd-gcd a b) (g.1, g.0, λ d p q. g.2 d q p)

-- ── common divisors ──

pub gcd_left : (a b : ℕ) → gcd a b ∣ a
gcd_left a b = (IsGcd-gcd a b).0

pub gcd_right : (a b : ℕ) → gcd a b ∣ b
gcd_right a b = (IsGcd-gcd a b).1

pub coprime_comm : (a b : ℕ) → IsCoprime a b → IsCoprime b a
coprime_comm a b e = gcd-comm b a ∙ e

-- a common divisor of coprime numbers is 1
pub common_is_one : (a b d : ℕ) → IsCoprime a b → d ∣ a → d ∣ b → d ≡ 1
common_is_one a b d e p q = eq-one_of_dvd-one (subst (λ n. d ∣ n) e ((IsGcd-gcd a b).2 d p q))

-- divisors of coprime numbers are coprime
pub coprime_of_dvd : (a b c d : ℕ) → IsCoprime a b → c ∣ a → d ∣ b → IsCoprime c d
coprime_of_dvd a b c d e p q =
    common_is_one a b (gcd c d) e (dvd_trans (gcd c d) (gcd_left c d) p) (dvd_trans (gcd c d) (gcd_right c d) q)

-- a number coprime to two is coprime to their product
pub coprime-mul : (a b c : ℕ) → IsCoprime a b → IsCoprime a c → IsCoprime a (b * c)
coprime-mul a b c p q =
    let g = gcd a (b * c) in
    let apart : IsCoprime g b = coprime_of_dvd a b g b p (gcd_left a (b * c)) (dvd_refl b) in
    common_is_one a c g q (gcd_left a (b * c)) (dvd_of_coprime g b c apart (gcd_right a (b * c)))

-- what a divisor leaves of a number divides it
pub quotient_divides : (g a : ℕ) → g ∣ a → a / g ∣ a
quotient_divides g a d = subst (λ n. a / g ∣ n) (div-mul_cancel g d) (dvd-mul_right (a / g) g)
