-- The fractions as a commutative ring, with the ring solver's names for them.
pub mod Parts
use Rattle.std.proofs.Common.{◌≡◌, ℕ, ◌<◌, T, List, [], ◌∷◌, get_or, ℤ, pos, ◌+ℤ◌, ◌*ℤ◌, refl}
use Rattle.rational.specs.Rational.{ℚ, ratio, whole, zero_ℚ, one_ℚ, ◌+ℚ◌, ◌-ℚ◌, ◌*ℚ◌, neg_ℚ}
use Rattle.rational.proofs.Ring.{CommutativeRing, ring, reading_atoms, ring_ℤ, ◌≐◌, ◌⊙◌≗◌⟹◌, ◌⊕◌, ◌⊖◌, ◌⊗◌, ⊝◌, 𝟘, 𝟙}
use Rattle.rational.proofs.Ring.Expressions.{Expression, variable, Over, IsIdentity}
use Rattle.rational.proofs.Ring.Solver.{ForAll, reading, reading-zero, reading-one, reading-add, reading-sub, reading-mul, reading-neg}
use Parts.{over_parts, over_ratio, equal_over, over-whole, over-zero, over-one, over-+, over-*, over-neg}

-- ---- the laws

pub +ℚ_assoc : (a b c : ℚ) → (a +ℚ b) +ℚ c ≡ a +ℚ (b +ℚ c)
+ℚ_assoc a b c =
    equal_over (over-+ (over-+ (over_parts a) (over_parts b)) (over_parts c)) (over-+ (over_parts a) (over-+ (over_parts b) (over_parts c)))
    (ring_ℤ 6 (λ n d m e k f. ((n ⊗ e ⊕ m ⊗ d) ⊗ f ⊕ k ⊗ (d ⊗ e)) ⊗ (d ⊗ (e ⊗ f)) ≐ (n ⊗ (e ⊗ f) ⊕ (m ⊗ f ⊕ k ⊗ e) ⊗ d) ⊗ (d ⊗ e ⊗ f)) tt
    a.numerator (pos a.denominator) b.numerator (pos b.denominator) c.numerator (pos c.denominator))

pub +ℚ_comm : (a b : ℚ) → a +ℚ b ≡ b +ℚ a
+ℚ_comm a b =
    equal_over (over-+ (over_parts a) (over_parts b)) (over-+ (over_parts b) (over_parts a))
    (ring_ℤ 4 (λ n d m e. (n ⊗ e ⊕ m ⊗ d) ⊗ (e ⊗ d) ≐ (m ⊗ d ⊕ n ⊗ e) ⊗ (d ⊗ e)) tt a.numerator (pos a.denominator) b.numerator (pos b.denominator))

pub +ℚ-zero : (a : ℚ) → a +ℚ zero_ℚ ≡ a
+ℚ-zero a =
    equal_over (over-+ (over_parts a) over-zero) (over_parts a)
    (ring_ℤ 2 (λ n d. (n ⊗ 𝟙 ⊕ 𝟘 ⊗ d) ⊗ d ≐ n ⊗ (d ⊗ 𝟙)) tt a.numerator (pos a.denominator))

pub +ℚ-neg_ℚ : (a : ℚ) → a +ℚ neg_ℚ a ≡ zero_ℚ
+ℚ-neg_ℚ a =
    equal_over (over-+ (over_parts a) (over-neg (over_parts a))) over-zero
    (ring_ℤ 2 (λ n d. (n ⊗ d ⊕ ⊝ n ⊗ d) ⊗ 𝟙 ≐ 𝟘 ⊗ (d ⊗ d)) tt a.numerator (pos a.denominator))

pub -ℚ_is : (a b : ℚ) → a -ℚ b ≡ a +ℚ neg_ℚ b
unfolding ◌-ℚ◌
-ℚ_is a b = refl

pub *ℚ_assoc : (a b c : ℚ) → (a *ℚ b) *ℚ c ≡ a *ℚ (b *ℚ c)
*ℚ_assoc a b c =
    equal_over (over-* (over-* (over_parts a) (over_parts b)) (over_parts c)) (over-* (over_parts a) (over-* (over_parts b) (over_parts c)))
    (ring_ℤ 6 (λ n d m e k f. n ⊗ m ⊗ k ⊗ (d ⊗ (e ⊗ f)) ≐ n ⊗ (m ⊗ k) ⊗ (d ⊗ e ⊗ f)) tt
    a.numerator (pos a.denominator) b.numerator (pos b.denominator) c.numerator (pos c.denominator))

pub *ℚ_comm : (a b : ℚ) → a *ℚ b ≡ b *ℚ a
*ℚ_comm a b =
    equal_over (over-* (over_parts a) (over_parts b)) (over-* (over_parts b) (over_parts a))
    (ring_ℤ 4 (λ n d m e. n ⊗ m ⊗ (e ⊗ d) ≐ m ⊗ n ⊗ (d ⊗ e)) tt a.numerator (pos a.denominator) b.numerator (pos b.denominator))

pub *ℚ-one : (a : ℚ) → a *ℚ one_ℚ ≡ a
*ℚ-one a =
    equal_over (over-* (over_parts a) over-one) (over_parts a)
    (ring_ℤ 2 (λ n d. n ⊗ 𝟙 ⊗ d ≐ n ⊗ (d ⊗ 𝟙)) tt a.numerator (pos a.denominator))

pub *ℚ-+ℚ : (a b c : ℚ) → a *ℚ (b +ℚ c) ≡ a *ℚ b +ℚ a *ℚ c
*ℚ-+ℚ a b c =
    equal_over (over-* (over_parts a) (over-+ (over_parts b) (over_parts c))) (over-+ (over-* (over_parts a) (over_parts b)) (over-* (over_parts a) (over_parts c)))
    (ring_ℤ 6 (λ n d m e k f. n ⊗ (m ⊗ f ⊕ k ⊗ e) ⊗ (d ⊗ e ⊗ (d ⊗ f)) ≐ (n ⊗ m ⊗ (d ⊗ f) ⊕ n ⊗ k ⊗ (d ⊗ e)) ⊗ (d ⊗ (e ⊗ f))) tt
    a.numerator (pos a.denominator) b.numerator (pos b.denominator) c.numerator (pos c.denominator))

pub whole-zero : whole (pos 0) ≡ zero_ℚ
unfolding zero_ℚ
whole-zero = refl

pub whole-one : whole (pos 1) ≡ one_ℚ
unfolding one_ℚ
whole-one = refl

pub whole-+ℚ : (m n : ℤ) → whole (m +ℤ n) ≡ whole m +ℚ whole n
whole-+ℚ m n = equal_over (over-whole (m +ℤ n)) (over-+ (over-whole m) (over-whole n)) (ring_ℤ 2 (λ m n. (m ⊕ n) ⊗ (𝟙 ⊗ 𝟙) ≐ (m ⊗ 𝟙 ⊕ n ⊗ 𝟙) ⊗ 𝟙) tt m n)

pub whole-*ℚ : (m n : ℤ) → whole (m *ℤ n) ≡ whole m *ℚ whole n
whole-*ℚ m n = equal_over (over-whole (m *ℤ n)) (over-* (over-whole m) (over-whole n)) (ring_ℤ 2 (λ m n. m ⊗ n ⊗ (𝟙 ⊗ 𝟙) ≐ m ⊗ n ⊗ 𝟙) tt m n)

-- a denominator times its ratio
pub whole-*ℚ-ratio : (p : ℤ) (q : ℕ) → 0 < q → whole (pos q) *ℚ ratio p q ≡ whole p
whole-*ℚ-ratio p q some = equal_over (over-* (over-whole (pos q)) (over_ratio p q some)) (over-whole p) (ring_ℤ 2 (λ p q. q ⊗ p ⊗ 𝟙 ≐ p ⊗ (𝟙 ⊗ q)) tt p (pos q))

-- ---- the ring

abbrev pub rationals : CommutativeRing ℚ
rationals = record {
  zero = zero_ℚ;
  one = one_ℚ;
  integer = whole;
  add = ◌+ℚ◌;
  sub = ◌-ℚ◌;
  mul = ◌*ℚ◌;
  neg = neg_ℚ;
  add_assoc = +ℚ_assoc;
  add_comm = +ℚ_comm;
  add-zero = +ℚ-zero;
  add-neg = +ℚ-neg_ℚ;
  sub_is = -ℚ_is;
  mul_assoc = *ℚ_assoc;
  mul_comm = *ℚ_comm;
  mul-one = *ℚ-one;
  mul-add = *ℚ-+ℚ;
  integer-zero = whole-zero;
  integer-one = whole-one;
  integer-add = whole-+ℚ;
  integer-mul = whole-*ℚ;
}

-- `ring` for fractions
pub ring_ℚ : (n : ℕ) (f : Over n) → IsIdentity n f → ForAll rationals n (λ i. zero_ℚ) f
ring_ℚ = ring rationals

-- ---- for a goal that stands

-- `reading_atoms` for fractions
pub goal_ℚ : (atoms : List ℚ) {P : Type 0}
    → ((ρ : ℕ → ℚ) → ((i : ℕ) → get_or atoms i zero_ℚ ≡ reading rationals ρ (variable i))
    → ((l r : Expression) → IsIdentity 0 (l ≐ r) → reading rationals ρ l ≡ reading rationals ρ r) → P)
    → P
goal_ℚ = reading_atoms rationals

pub reading-zero_ℚ : (ρ : ℕ → ℚ) → zero_ℚ ≡ reading rationals ρ 𝟘
reading-zero_ℚ = reading-zero rationals

pub reading-one_ℚ : (ρ : ℕ → ℚ) → one_ℚ ≡ reading rationals ρ 𝟙
reading-one_ℚ = reading-one rationals

pub reading-+ℚ : (ρ : ℕ → ℚ) (x y : Expression) → reading rationals ρ x +ℚ reading rationals ρ y ≡ reading rationals ρ (x ⊕ y)
reading-+ℚ = reading-add rationals

pub reading--ℚ : (ρ : ℕ → ℚ) (x y : Expression) → reading rationals ρ x -ℚ reading rationals ρ y ≡ reading rationals ρ (x ⊖ y)
reading--ℚ = reading-sub rationals

pub reading-*ℚ : (ρ : ℕ → ℚ) (x y : Expression) → reading rationals ρ x *ℚ reading rationals ρ y ≡ reading rationals ρ (x ⊗ y)
reading-*ℚ = reading-mul rationals

pub reading-neg_ℚ : (ρ : ℕ → ℚ) (x : Expression) → neg_ℚ (reading rationals ρ x) ≡ reading rationals ρ (⊝ x)
reading-neg_ℚ = reading-neg rationals

pub ruleset readings_ℚ = (reading--ℚ, reading-+ℚ, reading-*ℚ, reading-neg_ℚ)

-- worked: a goal with its atoms named, and one that has 0 and 1
named : (a b c : ℚ) → (a +ℚ b) *ℚ c ≡ c *ℚ a -ℚ neg_ℚ (c *ℚ b)
named a b c = goal_ℚ (a ∷ b ∷ c ∷ []) (λ _ at same. simp (readings_ℚ, at 0, at 1, at 2) (same _ _ tt))

named-constants : (a : ℚ) → a *ℚ one_ℚ +ℚ zero_ℚ ≡ one_ℚ *ℚ a
named-constants a = goal_ℚ (a ∷ []) (λ ρ at same. simp (readings_ℚ, reading-zero_ℚ ρ, reading-one_ℚ ρ, at 0) (same _ _ tt))
