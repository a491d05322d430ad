-- inner: a fraction is the ratio of its parts.
use Rattle.std.proofs.Common.{◌≡◌, ℕ, zero, suc, ◌/◌, ◌<◌, ℤ, pos, negsuc, neg_ℤ, nat_abs, Bool, true, false, ◌&&◌, T, eqb→eq, ltb→lt, ◌∙◌, ap, subst, arith}
use Rattle.std.proofs.Math.Dec.{T_prop}
use Rattle.std.proofs.Math.Nat.{div-one}
use Rattle.rational.specs.Gcd.{gcd, IsCoprime, is_lowest, quotient}
use Rattle.rational.specs.Rational.{ℚ, ratio}

and_parts : (a b : Bool) → T (a && b) → T a × T b
and_parts true true t = (tt, tt)
and_parts true false t = absurd t
and_parts false b t = absurd t

pub coprime_from_lowest : (p : ℤ) (q : ℕ) → T (is_lowest p q) → IsCoprime (nat_abs p) q
unfolding is_lowest gcd
coprime_from_lowest p q t = eqb→eq _ _ (and_parts _ _ t).0

pub positive_from_lowest : (p : ℤ) (q : ℕ) → T (is_lowest p q) → 0 < q
unfolding is_lowest gcd
positive_from_lowest p q t = ltb→lt _ _ (and_parts _ _ t).1

abbrev pub pair : (p : ℤ) (q : ℕ) → T (is_lowest p q) → ℚ
pair p q t = record { numerator = p; denominator = q; lowest = t }

pair-cong : (p p' : ℤ) (q q' : ℕ) (t : T (is_lowest p q)) (t' : T (is_lowest p' q')) → p ≡ p' → q ≡ q' → pair p q t ≡ pair p' q' t'
pair-cong p p' q q' t t' e f =
    let P : ℤ → Type 0 = λ z. (u : T (is_lowest z q')) → pair p q t ≡ pair z q' u in
    let Q : ℕ → Type 0 = λ n. (u : T (is_lowest p n)) → pair p q t ≡ pair p n u in
    subst P e (subst Q f (λ u. ap (pair p q) (T_prop _ t u))) t'

-- two fractions are equal where their pairs are
pub same_ℚ : (a b : ℚ) → a.numerator ≡ b.numerator → a.denominator ≡ b.denominator → a ≡ b
same_ℚ a b e f = pair-cong a.numerator b.numerator a.denominator b.denominator a.lowest b.lowest e f

over_one : (p : ℤ) → quotient p 1 ≡ p
unfolding quotient
over_one (pos n) = ap pos (div-one n)
over_one (negsuc n) = ap (λ k. neg_ℤ (pos k)) (div-one (suc n))

ratio_of_pair : (p : ℤ) (q : ℕ) (t : T (is_lowest p q)) → ratio p q ≡ pair p q t
unfolding ratio
ratio_of_pair p zero t = let some : 0 < 0 = positive_from_lowest p zero t in absurd (omega (arith, some))
ratio_of_pair p (suc q) t =
    let one : gcd (nat_abs p) (suc q) ≡ 1 = coprime_from_lowest p (suc q) t in
    same_ℚ (ratio p (suc q)) (pair p (suc q) t) (ap (quotient p) one ∙ over_one p) (ap (λ g. suc q / g) one ∙ div-one (suc q))

-- a fraction is the ratio of its parts
pub ratio-parts : (a : ℚ) → ratio a.numerator a.denominator ≡ a
ratio-parts a = ratio_of_pair a.numerator a.denominator a.lowest
