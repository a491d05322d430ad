-- A fraction as one integer over a natural, not in lowest terms. Laws of fractions follow by `ring_ℤ` from how these combine.
use Rattle.std.proofs.Common.{◌≡◌, ℕ, ◌*◌, ◌<◌, ℤ, pos, ◌+ℤ◌, ◌*ℤ◌, neg_ℤ, refl, mul-pos, arith}
use Rattle.rational.proofs.Integer.{*ℤ-cancel}
use Rattle.rational.specs.Rational.{ℚ, ratio, whole, zero_ℚ, one_ℚ, ◌+ℚ◌, neg_ℚ, ◌-ℚ◌, ◌*ℚ◌}
use Rattle.rational.proofs.Ratio.{ratio-cross, eq_from_cross, positive}
use Rattle.rational.proofs.Ring.{ring_ℤ, ◌≐◌, ◌⊙◌≗◌⟹◌, ◌⊕◌, ◌⊗◌, ⊝◌, 𝟘, 𝟙}

-- a is p over q
pub record IsOver (a : ℚ) (p : ℤ) (q : ℕ) : Type 0 where
  pub some : 0 < q
  pub cross : a.numerator *ℤ pos q ≡ p *ℤ pos a.denominator

-- a fraction is its parts
pub over_parts : (a : ℚ) → IsOver a a.numerator a.denominator
over_parts a = record { some = positive a; cross = refl }

pub over_ratio : (p : ℤ) (q : ℕ) → 0 < q → IsOver (ratio p q) p q
over_ratio p q some = record { some = some; cross = ratio-cross p q some }

-- the same fraction over another number
pub over_same : {a : ℚ} {p : ℤ} {q : ℕ} → IsOver a p q → (r : ℤ) (s : ℕ) → 0 < s → p *ℤ pos s ≡ r *ℤ pos q → IsOver a r s
over_same {a} {p} {q} o r s some e =
    let n = a.numerator in
    let d = pos a.denominator in
    record {
      some = some;
      cross = *ℤ-cancel (n *ℤ pos s) (r *ℤ d) q o.some
          (ring_ℤ 6 (λ n d p q r s. s ⊙ n ⊗ q ≗ p ⊗ d ⟹ d ⊙ p ⊗ s ≗ r ⊗ q ⟹ n ⊗ s ⊗ q ≐ r ⊗ d ⊗ q) tt n d p (pos q) r (pos s) o.cross e);
    }

-- two fractions are equal where their cross products are
pub equal_over : {a b : ℚ} {p r : ℤ} {q s : ℕ} → IsOver a p q → IsOver b r s → p *ℤ pos s ≡ r *ℤ pos q → a ≡ b
equal_over {a} {b} {p} {r} {q} {s} o u e =
    let v = over_same o r s u.some e in
    let n = a.numerator in
    let d = pos a.denominator in
    let m = b.numerator in
    let c = pos b.denominator in
    eq_from_cross a b (*ℤ-cancel (n *ℤ c) (m *ℤ d) s u.some
    (ring_ℤ 6 (λ n d m c r s. c ⊙ n ⊗ s ≗ r ⊗ d ⟹ ⊝ d ⊙ m ⊗ s ≗ r ⊗ c ⟹ n ⊗ c ⊗ s ≐ m ⊗ d ⊗ s) tt n d m c r (pos s) v.cross u.cross))

-- ---- how they combine

pub over-whole : (z : ℤ) → IsOver (whole z) z 1
unfolding whole
over-whole z = over_ratio z 1 (omega arith)

pub over-zero : IsOver zero_ℚ (pos 0) 1
unfolding zero_ℚ
over-zero = over-whole (pos 0)

-- zero, over any number
pub zero_over : (d : ℕ) → 0 < d → IsOver zero_ℚ (pos 0) d
zero_over d some = over_same over-zero (pos 0) d some (ring_ℤ 1 (λ d. 𝟘 ⊗ d ≐ 𝟘 ⊗ 𝟙) tt (pos d))

pub over-one : IsOver one_ℚ (pos 1) 1
unfolding one_ℚ
over-one = over-whole (pos 1)

pub over-+ : {a b : ℚ} {p r : ℤ} {q s : ℕ} → IsOver a p q → IsOver b r s → IsOver (a +ℚ b) (p *ℤ pos s +ℤ r *ℤ pos q) (q * s)
unfolding ◌+ℚ◌
over-+ {a} {b} {p} {r} {q} {s} o u =
    let n = a.numerator in
    let d = pos a.denominator in
    let m = b.numerator in
    let c = pos b.denominator in
    over_same (over_ratio (n *ℤ c +ℤ m *ℤ d) (a.denominator * b.denominator) (mul-pos (positive a) (positive b)))
    (p *ℤ pos s +ℤ r *ℤ pos q) (q * s) (mul-pos o.some u.some)
    (ring_ℤ 8 (λ n d m c p q r s. c ⊗ s ⊙ n ⊗ q ≗ p ⊗ d ⟹ d ⊗ q ⊙ m ⊗ s ≗ r ⊗ c ⟹ (n ⊗ c ⊕ m ⊗ d) ⊗ (q ⊗ s) ≐ (p ⊗ s ⊕ r ⊗ q) ⊗ (d ⊗ c)) tt
    n d m c p (pos q) r (pos s) o.cross u.cross)

pub over-* : {a b : ℚ} {p r : ℤ} {q s : ℕ} → IsOver a p q → IsOver b r s → IsOver (a *ℚ b) (p *ℤ r) (q * s)
unfolding ◌*ℚ◌
over-* {a} {b} {p} {r} {q} {s} o u =
    let n = a.numerator in
    let d = pos a.denominator in
    let m = b.numerator in
    let c = pos b.denominator in
    over_same (over_ratio (n *ℤ m) (a.denominator * b.denominator) (mul-pos (positive a) (positive b)))
    (p *ℤ r) (q * s) (mul-pos o.some u.some)
    (ring_ℤ 8 (λ n d m c p q r s. m ⊗ s ⊙ n ⊗ q ≗ p ⊗ d ⟹ p ⊗ d ⊙ m ⊗ s ≗ r ⊗ c ⟹ n ⊗ m ⊗ (q ⊗ s) ≐ p ⊗ r ⊗ (d ⊗ c)) tt
    n d m c p (pos q) r (pos s) o.cross u.cross)

pub over-neg : {a : ℚ} {p : ℤ} {q : ℕ} → IsOver a p q → IsOver (neg_ℚ a) (neg_ℤ p) q
unfolding neg_ℚ
over-neg {a} {p} {q} o =
    let n = a.numerator in
    let d = pos a.denominator in
    over_same (over_ratio (neg_ℤ n) a.denominator (positive a)) (neg_ℤ p) q o.some
    (ring_ℤ 4 (λ n d p q. ⊝ 𝟙 ⊙ n ⊗ q ≗ p ⊗ d ⟹ ⊝ n ⊗ q ≐ ⊝ p ⊗ d) tt n d p (pos q) o.cross)

pub over-- : {a b : ℚ} {p r : ℤ} {q s : ℕ} → IsOver a p q → IsOver b r s → IsOver (a -ℚ b) (p *ℤ pos s +ℤ neg_ℤ r *ℤ pos q) (q * s)
unfolding ◌-ℚ◌
over-- o u = over-+ o (over-neg u)
