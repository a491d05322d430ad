-- The facts on fractions that carry all laws: two are equal where their cross products are, and a ratio against what it was made of.
use Rattle.std.proofs.Common.{◌≡◌, ℕ, zero, suc, ◌*◌, ◌/◌, ◌<◌, ℤ, pos, negsuc, ◌*ℤ◌, neg_ℤ, nat_abs, T, sym, ◌∙◌, ap, subst, arith}
use Rattle.std.proofs.Math.Nat.{div-mul_cancel, mul_comm, dvd-mul_left, dvd_antisymm}
use Rattle.std.specs.Int.{◌∣◌}
use Rattle.rational.specs.Gcd.{gcd, is_lowest, quotient}
use Rattle.rational.specs.Rational.{ℚ, ratio}
use Rattle.rational.proofs.Gcd.{IsGcd-gcd, gcd-comm, dvd_of_coprime}
use Rattle.rational.proofs.Integer.{*ℤ_assoc, *ℤ-swap, nat_abs-*ℤ, *ℤ-cancel, neg_ℤ-*ℤ}
use Rattle.rational.specs.Inner.Parts.{pair}
pub use Rattle.rational.specs.Inner.Lowest.{lowest_from}
pub use Rattle.rational.specs.Inner.Parts.{coprime_from_lowest, positive_from_lowest, same_ℚ, ratio-parts}

quotient-*ℤ : (p : ℤ) (g : ℕ) → g ∣ nat_abs p → quotient p g *ℤ pos g ≡ p
unfolding quotient
quotient-*ℤ (pos n) g d = ap pos (div-mul_cancel g d)
quotient-*ℤ (negsuc n) g d = neg_ℤ-*ℤ (pos (suc n / g)) (pos g) ∙ ap (λ k. neg_ℤ (pos k)) (div-mul_cancel g d)

pub positive : (a : ℚ) → 0 < a.denominator
positive a = positive_from_lowest a.numerator a.denominator a.lowest

denominators_divide : (a b : ℚ) → a.numerator *ℤ pos b.denominator ≡ b.numerator *ℤ pos a.denominator → a.denominator ∣ b.denominator
denominators_divide a b e =
    let sizes : nat_abs a.numerator * b.denominator ≡ nat_abs b.numerator * a.denominator =
    sym (nat_abs-*ℤ a.numerator (pos b.denominator)) ∙ ap nat_abs e ∙ nat_abs-*ℤ b.numerator (pos a.denominator) in
    dvd_of_coprime a.denominator (nat_abs a.numerator) b.denominator
    (gcd-comm a.denominator (nat_abs a.numerator) ∙ coprime_from_lowest a.numerator a.denominator a.lowest)
    (subst (λ n. a.denominator ∣ n) (sym sizes) (dvd-mul_left a.denominator (nat_abs b.numerator)))

-- two fractions are equal where their cross products are
pub eq_from_cross : (a b : ℚ) → a.numerator *ℤ pos b.denominator ≡ b.numerator *ℤ pos a.denominator → a ≡ b
eq_from_cross a b e =
    let same : a.denominator ≡ b.denominator = dvd_antisymm (denominators_divide a b e) (denominators_divide b a (sym e)) in
    let tops : a.numerator *ℤ pos b.denominator ≡ b.numerator *ℤ pos b.denominator = e ∙ ap (λ n. b.numerator *ℤ pos n) same in
    same_ℚ a b (*ℤ-cancel a.numerator b.numerator b.denominator (positive b) tops) same

-- the parts of a ratio, against what it was made of
pub ratio-cross : (p : ℤ) (q : ℕ) → 0 < q → (ratio p q).numerator *ℤ pos q ≡ p *ℤ pos (ratio p q).denominator
unfolding ratio
ratio-cross p zero some = absurd (omega arith)
ratio-cross p (suc q) some =
    let g = gcd (nat_abs p) (suc q) in
    let top : quotient p g *ℤ pos g ≡ p = quotient-*ℤ p g (IsGcd-gcd (nat_abs p) (suc q)).0 in
    let bottom : suc q / g * g ≡ suc q = div-mul_cancel g (IsGcd-gcd (nat_abs p) (suc q)).1 in
    ap (λ n. quotient p g *ℤ pos n) (sym bottom ∙ mul_comm (suc q / g) g)
    ∙ sym (*ℤ_assoc (quotient p g) (pos g) (pos (suc q / g)))
    ∙ ap (λ z. z *ℤ pos (suc q / g)) top

cross_both : (n n' p p' d d' q q' : ℤ) → n *ℤ q ≡ p *ℤ d → n' *ℤ q' ≡ p' *ℤ d' → p *ℤ q' ≡ p' *ℤ q → n *ℤ d' *ℤ q *ℤ q' ≡ n' *ℤ d *ℤ q *ℤ q'
cross_both n n' p p' d d' q q' left right cross =
    ap (λ z. z *ℤ q') (*ℤ-swap n d' q ∙ ap (λ z. z *ℤ d') left)
    ∙ *ℤ-swap (p *ℤ d) d' q' ∙ ap (λ z. z *ℤ d') (*ℤ-swap p d q' ∙ ap (λ z. z *ℤ d) cross)
    ∙ *ℤ-swap (p' *ℤ q) d d' ∙ ap (λ z. z *ℤ d) (*ℤ-swap p' q d' ∙ ap (λ z. z *ℤ q) (sym right))
    ∙ ap (λ z. z *ℤ d) (*ℤ-swap n' q' q) ∙ *ℤ-swap (n' *ℤ q) q' d ∙ ap (λ z. z *ℤ q') (*ℤ-swap n' q d)

-- equal cross products make equal ratios
pub ratio-cong : (p p' : ℤ) (q q' : ℕ) → 0 < q → 0 < q' → p *ℤ pos q' ≡ p' *ℤ pos q → ratio p q ≡ ratio p' q'
ratio-cong p p' q q' some some' e =
    let n = (ratio p q).numerator in
    let n' = (ratio p' q').numerator in
    let d = (ratio p q).denominator in
    let d' = (ratio p' q').denominator in
    eq_from_cross (ratio p q) (ratio p' q')
    (*ℤ-cancel (n *ℤ pos d') (n' *ℤ pos d) q some
    (*ℤ-cancel (n *ℤ pos d' *ℤ pos q) (n' *ℤ pos d *ℤ pos q) q' some'
    (cross_both n n' p p' (pos d) (pos d') (pos q) (pos q') (ratio-cross p q some) (ratio-cross p' q' some') e)))

-- parts in lowest terms are those of their ratio
pub numerator-ratio : (p : ℤ) (q : ℕ) → T (is_lowest p q) → (ratio p q).numerator ≡ p
numerator-ratio p q t = ap (λ (a : ℚ). a.numerator) (ratio-parts (pair p q t))

pub denominator-ratio : (p : ℤ) (q : ℕ) → T (is_lowest p q) → (ratio p q).denominator ≡ q
denominator-ratio p q t = ap (λ (a : ℚ). a.denominator) (ratio-parts (pair p q t))
