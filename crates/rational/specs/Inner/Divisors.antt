-- inner: `gcd` is the greatest common divisor, and what is left of two numbers after it is coprime.
use Rattle.std.proofs.Common.{ℕ, zero, suc, ◌*◌, ◌/◌, ◌%◌, ◌<◌, refl, sym, subst, arith}
use Rattle.std.specs.Int.{IsGcd, ◌∣◌}
use Rattle.std.proofs.lemmas.Nat.Gcd.{IsGcd-from_zero, IsGcd-from_mod}
use Rattle.std.proofs.Math.Nat.{mod-lt, one-mul, div-mul_cancel, pos_of_dvd_of_pos, mul-dvd-mul_right, dvd_of_mul-dvd-mul_right, eq-one_of_dvd-one}
use Rattle.rational.specs.Gcd.{gcd, gcd_within, IsCoprime}

pub IsGcd-gcd_within : (steps a b : ℕ) → b < steps → IsGcd a b (gcd_within steps a b)
unfolding gcd_within
IsGcd-gcd_within zero a b h = absurd (omega arith)
IsGcd-gcd_within (suc steps) a zero h = IsGcd-from_zero a zero refl
IsGcd-gcd_within (suc steps) a (suc b) h =
    let less : a % suc b < suc b = mod-lt a (omega arith) in
    IsGcd-from_mod a (suc b) _ (IsGcd-gcd_within steps (suc b) (a % suc b) (omega arith))

pub IsGcd-gcd : (a b : ℕ) → IsGcd a b (gcd a b)
unfolding gcd gcd_within
IsGcd-gcd a b = IsGcd-gcd_within (suc b) a b (omega arith)

pub gcd_pos : (a b : ℕ) → 0 < b → 0 < gcd a b
gcd_pos a b some = pos_of_dvd_of_pos (IsGcd-gcd a b).1 some

-- what is left of two numbers after their greatest common divisor is coprime
pub coprime_after : (a b : ℕ) → 0 < b → IsCoprime (a / gcd a b) (b / gcd a b)
coprime_after a b some =
    let g = gcd a b in
    let d = gcd (a / g) (b / g) in
    let whole = IsGcd-gcd a b in
    let left = IsGcd-gcd (a / g) (b / g) in
    let in_a : d * g ∣ a = subst (λ n. d * g ∣ n) (div-mul_cancel g whole.0) (mul-dvd-mul_right d left.0 g) in
    let in_b : d * g ∣ b = subst (λ n. d * g ∣ n) (div-mul_cancel g whole.1) (mul-dvd-mul_right d left.1 g) in
    eq-one_of_dvd-one (dvd_of_mul-dvd-mul_right d (gcd_pos a b some) (subst (λ n. d * g ∣ n) (sym (one-mul g)) (whole.2 (d * g) in_a in_b)))
