-- Linear facts: what they say of fractions, and what they say of integers that are the fractions times a number.
use Rattle.std.proofs.Common.{◌≡◌, ℕ, zero, suc, ◌<◌, Bool, true, false, ◌&&◌, ℤ, pos, ◌+ℤ◌, ◌-ℤ◌, ◌*ℤ◌, neg_ℤ, ◌≤ℤ◌, ◌<ℤ◌}
use Rattle.rational.specs.Rational.{ℚ, ◌≤ℚ◌, ◌<ℚ◌}
use Rattle.rational.proofs.Ring.Expressions.{Expression, variable, literal, 𝟘, 𝟙, ◌⊕◌, ◌⊖◌, ◌⊗◌, ⊝◌}
use Rattle.rational.proofs.Ring.Values.{with_first, eval}
use Rattle.rational.proofs.RationalRing.{rationals}

infix 4 ◌≼◌ ◌≺◌ ◌≐◌
infixr 3 ◌⟹◌
-- that l is at most r, below r, or r; that one fact gives another; or what never holds
pub data Fact : Type 0 where
  ◌≼◌ : Expression → Expression → Fact
  ◌≺◌ : Expression → Expression → Fact
  ◌≐◌ : Expression → Expression → Fact
  ◌⟹◌ : Fact → Fact → Fact
  never : Fact

-- a fact as a function of n variables
abbrev pub FactOver : ℕ → Type 0
FactOver zero = Fact
FactOver (suc n) = Expression → FactOver n

-- ---- what is linear: of products only those of a literal on the left

abbrev pub is_linear : Expression → Bool
is_linear (variable n) = true
is_linear (literal z) = true
is_linear 𝟘 = true
is_linear 𝟙 = true
is_linear (x ⊕ y) = is_linear x && is_linear y
is_linear (x ⊖ y) = is_linear x && is_linear y
is_linear (literal z ⊗ y) = is_linear y
is_linear (x ⊗ y) = false
is_linear (⊝ x) = is_linear x

abbrev pub is_linear_fact : Fact → Bool
is_linear_fact (l ≼ r) = is_linear l && is_linear r
is_linear_fact (l ≺ r) = is_linear l && is_linear r
is_linear_fact (l ≐ r) = is_linear l && is_linear r
is_linear_fact (a ⟹ b) = is_linear_fact a && is_linear_fact b
is_linear_fact never = true

abbrev pub is_linear_over : (n : ℕ) → FactOver n → Bool
is_linear_over zero fact = is_linear_fact fact
is_linear_over (suc n) f = is_linear_over n (f (variable n))

-- ---- of fractions

abbrev pub Holds : (ℕ → ℚ) → Fact → Type 0
Holds ρ (l ≼ r) = eval rationals ρ l ≤ℚ eval rationals ρ r
Holds ρ (l ≺ r) = eval rationals ρ l <ℚ eval rationals ρ r
Holds ρ (l ≐ r) = eval rationals ρ l ≡ eval rationals ρ r
Holds ρ (a ⟹ b) = Holds ρ a → Holds ρ b
Holds ρ never = ⊥

abbrev pub ForFractions : (n : ℕ) → (ℕ → ℚ) → FactOver n → Type 0
ForFractions zero ρ fact = Holds ρ fact
ForFractions (suc n) ρ f = (a : ℚ) → ForFractions n (with_first a ρ) (f (variable n))

-- ---- of integers: ν i is d times the variable of number i

-- d times the value of an expression
abbrev pub scaled : ℕ → (ℕ → ℤ) → Expression → ℤ
scaled d ν (variable n) = ν n
scaled d ν (literal z) = z *ℤ pos d
scaled d ν 𝟘 = pos 0
scaled d ν 𝟙 = pos d
scaled d ν (x ⊕ y) = scaled d ν x +ℤ scaled d ν y
scaled d ν (x ⊖ y) = scaled d ν x -ℤ scaled d ν y
scaled d ν (literal z ⊗ y) = z *ℤ scaled d ν y
scaled d ν (x ⊗ y) = pos 0
scaled d ν (⊝ x) = neg_ℤ (scaled d ν x)

abbrev pub HoldsScaled : ℕ → (ℕ → ℤ) → Fact → Type 0
HoldsScaled d ν (l ≼ r) = scaled d ν l ≤ℤ scaled d ν r
HoldsScaled d ν (l ≺ r) = scaled d ν l <ℤ scaled d ν r
HoldsScaled d ν (l ≐ r) = scaled d ν l ≡ scaled d ν r
HoldsScaled d ν (a ⟹ b) = HoldsScaled d ν a → HoldsScaled d ν b
HoldsScaled d ν never = ⊥

abbrev pub ForIntegers : (n : ℕ) → ℕ → (ℕ → ℤ) → FactOver n → Type 0
ForIntegers zero d ν fact = HoldsScaled d ν fact
ForIntegers (suc n) d ν f = (a : ℤ) → ForIntegers n d (with_first a ν) (f (variable n))

-- what nothing proves: what is asked of integers where a fact is not linear
pub data NotLinear : Type 0 where

abbrev pub Where : Bool → Type 0 → Type 0
Where true P = P
Where false P = NotLinear

-- the fact times d, for every d above 0
abbrev pub OfIntegers : (n : ℕ) → FactOver n → Type 0
OfIntegers n f = Where (is_linear_over n f) ((d : ℕ) → 0 < d → ForIntegers n d (λ i. pos 0) f)
