-- inner: a numerator and a denominator, each over their greatest common divisor, are in lowest terms.
use Rattle.std.proofs.Common.{◌≡◌, ℕ, zero, suc, ◌/◌, ◌<◌, ◌≤◌, ℤ, pos, negsuc, neg_ℤ, nat_abs, Bool, ◌&&◌, true, T, eq-eqb, lt-ltb, refl, sym, ◌∙◌, ap, ap₂, subst}
use Rattle.std.proofs.Math.Nat.{one-mul, le-div_iff_mul-le, le_of_dvd}
use Rattle.rational.specs.Gcd.{gcd, IsCoprime, is_lowest, quotient}
use Rattle.rational.specs.Inner.Divisors.{IsGcd-gcd, gcd_pos, coprime_after}

and_from : (a b : Bool) → a ≡ true → b ≡ true → T (a && b)
and_from a b p q = subst T (sym (ap₂ ◌&&◌ p q)) tt

pub lowest_from : (p : ℤ) (q : ℕ) → IsCoprime (nat_abs p) q → 0 < q → T (is_lowest p q)
unfolding is_lowest gcd
lowest_from p q coprime some = and_from _ _ (eq-eqb _ _ coprime) (lt-ltb _ _ some)

pub nat_abs-neg_ℤ : (z : ℤ) → nat_abs (neg_ℤ z) ≡ nat_abs z
nat_abs-neg_ℤ (pos zero) = refl
nat_abs-neg_ℤ (pos (suc n)) = refl
nat_abs-neg_ℤ (negsuc n) = refl

nat_abs-quotient : (p : ℤ) (g : ℕ) → nat_abs (quotient p g) ≡ nat_abs p / g
unfolding quotient
nat_abs-quotient (pos n) g = refl
nat_abs-quotient (negsuc n) g = nat_abs-neg_ℤ (pos (suc n / g))

pub lowest_after : (p : ℤ) (q : ℕ) → 0 < q → T (is_lowest (quotient p (gcd (nat_abs p) q)) (q / gcd (nat_abs p) q))
lowest_after p q some =
    let g = gcd (nat_abs p) q in
    let positive : 0 < g = gcd_pos (nat_abs p) q some in
    let whole : g ≤ q = le_of_dvd some (IsGcd-gcd (nat_abs p) q).1 in
    lowest_from _ _ (ap (λ n. gcd n (q / g)) (nat_abs-quotient p g) ∙ coprime_after (nat_abs p) q some)
    ((le-div_iff_mul-le positive).1 (subst (λ n. n ≤ q) (sym (one-mul g)) whole))
