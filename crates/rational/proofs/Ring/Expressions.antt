-- What the ring solver computes with: expressions, claims on them, and polynomials as their normal form.
use Rattle.std.specs.Prelude.{ℕ, zero, suc, pred, ◌&&◌, Bool, true, false, List, [], ◌∷◌, ◌++◌, replicate, ℤ, pos, negsuc, ◌+ℤ◌, ◌*ℤ◌}

-- ---- expressions and claims

infixl 6 ◌⊕◌ ◌⊖◌
infixl 7 ◌⊗◌
infix 8 ⊝◌
-- An expression over numbered variables: sums, differences, products and negations of variables, zero, one and integers.
pub data Expression : Type 0 where
  variable : ℕ → Expression
  literal : ℤ → Expression
  𝟘 : Expression
  𝟙 : Expression
  ◌⊕◌ : Expression → Expression → Expression
  ◌⊖◌ : Expression → Expression → Expression
  ◌⊗◌ : Expression → Expression → Expression
  ⊝◌ : Expression → Expression

infix 4 ◌≐◌
infixr 3 ◌⊙◌≗◌⟹◌
-- A claim: `l ≐ r`, that l is r. Or `k ⊙ a ≗ b ⟹ claim`, that the claim holds where a is b; it then follows from
-- that equation taken k times.
pub data Claim : Type 0 where
  ◌≐◌ : Expression → Expression → Claim
  ◌⊙◌≗◌⟹◌ : Expression → Expression → Expression → Claim → Claim

-- a claim as a function of n variables
abbrev pub Over : ℕ → Type 0
Over zero = Claim
Over (suc n) = Expression → Over n

-- ---- polynomials

infix 5 ◌+X◌
-- A polynomial: a constant, or `p +X q`, which is p + x · q for the variable x of number 0. There q is over all
-- variables, and p over those from number 1 on, which it numbers from 0.
pub data Polynomial : Type 0 where
  constant : ℤ → Polynomial
  ◌+X◌ : Polynomial → Polynomial → Polynomial

-- the sum with a constant
abbrev pub plus_constant : ℤ → Polynomial → Polynomial
plus_constant a (constant b) = constant (a +ℤ b)
plus_constant a (p +X q) = plus_constant a p +X q

-- the sum
abbrev pub plus : Polynomial → Polynomial → Polynomial
plus (constant a) r = plus_constant a r
plus (p +X q) (constant b) = plus_constant b p +X q
plus (p +X q) (r +X s) = plus p r +X plus q s

-- the product with a constant
abbrev pub scale : ℤ → Polynomial → Polynomial
scale a (constant b) = constant (a *ℤ b)
scale a (p +X q) = scale a p +X scale a q

-- the product with a polynomial over the variables from number 1 on, given as the function that multiplies by it
abbrev pub times_rest : (Polynomial → Polynomial) → Polynomial → Polynomial
times_rest f (constant b) = f (constant b) +X constant (pos 0)
times_rest f (r +X s) = f r +X times_rest f s

-- the product
abbrev pub times : Polynomial → Polynomial → Polynomial
times (constant a) r = scale a r
times (p +X q) r = plus (times_rest (times p) r) (constant (pos 0) +X times q r)

-- the variable of a number
abbrev pub of_variable : ℕ → Polynomial
of_variable zero = constant (pos 0) +X constant (pos 1)
of_variable (suc n) = of_variable n +X constant (pos 0)

-- the normal form of an expression, up to coefficients that are 0
abbrev pub normal : Expression → Polynomial
normal (variable n) = of_variable n
normal (literal z) = constant z
normal 𝟘 = constant (pos 0)
normal 𝟙 = constant (pos 1)
normal (x ⊕ y) = plus (normal x) (normal y)
normal (x ⊖ y) = plus (normal x) (scale (negsuc 0) (normal y))
normal (x ⊗ y) = times (normal x) (normal y)
normal (⊝ x) = scale (negsuc 0) (normal x)

-- ---- the check

abbrev pub is_zero : ℤ → Bool
is_zero (pos zero) = true
is_zero (pos (suc n)) = false
is_zero (negsuc n) = false

-- all coefficients are 0
abbrev pub vanishes : Polynomial → Bool
vanishes (constant a) = is_zero a
vanishes (p +X q) = vanishes p && vanishes q

-- what has to vanish: the left side less the right side, less each given equation its number of times
abbrev pub difference : Polynomial → Claim → Polynomial
difference p (l ≐ r) = plus p (normal (l ⊖ r))
difference p (k ⊙ a ≗ b ⟹ claim) = difference (plus p (normal (k ⊗ (b ⊖ a)))) claim

-- the same for a claim over n variables, which get the numbers n - 1 to 0
abbrev pub difference_over : (n : ℕ) → Over n → Polynomial
difference_over zero claim = difference (constant (pos 0)) claim
difference_over (suc n) f = difference_over n (f (variable n))

-- The terms of p, each its coefficient and the powers of the variables. `after` is how many variables come after p's
-- first one, `power` is the power of that one so far, and `powers` are those of the variables before it.
abbrev pub terms : (after power : ℕ) → List ℕ → Polynomial → List (ℤ × List ℕ)
terms after power powers (constant z) = elim (is_zero z) [ true ↦ [] | false ↦ (z, replicate after 0 ++ power ∷ powers) ∷ [] ]
terms after power powers (p +X q) = terms (pred after) 0 (power ∷ powers) p ++ terms after (suc power) powers q

-- what nothing proves: that these terms, which a claim leaves over, make no difference
pub data LeftOver (left : List (ℤ × List ℕ)) : Type 0 where

abbrev pub NoneLeft : Bool → List (ℤ × List ℕ) → Type 0
NoneLeft true left = Unit {0}
NoneLeft false left = LeftOver left

-- the claim is an identity, which `tt` proves; a refusal of `tt` shows what is left over
abbrev pub IsIdentity : (n : ℕ) → Over n → Type 0
IsIdentity n f = NoneLeft (vanishes (difference_over n f)) (terms (pred n) 0 [] (difference_over n f))
