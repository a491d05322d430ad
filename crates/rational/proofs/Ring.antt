-- The ring solver: identities of a commutative ring, proved by computing the normal form of both sides.
--     ring R n (λ x y .. . l ≐ r) tt a b ..               proves l ≡ r at x = a, y = b, ..
--     ring R n (λ x y .. . k ⊙ s ≗ t ⟹ l ≐ r) tt a b .. h  proves it from h : s ≡ t, since l - r is k times s - t
-- `docs/SOLVERS.md` says more.
pub mod Expressions
pub mod Laws
pub mod Values
pub mod Solver
pub mod Integers
use Rattle.std.specs.Prelude.{◌≡◌, ℕ, ◌+◌, ◌*◌, [], ◌∷◌, ℤ, pos, ◌+ℤ◌, ◌-ℤ◌, ◌*ℤ◌, neg_ℤ}
pub use Integers.{ring_ℤ, goal_ℤ, readings_ℤ, reading-zero_ℤ, reading-one_ℤ, of_pos}
pub use Expressions.{◌≐◌, ◌⊙◌≗◌⟹◌, ◌⊕◌, ◌⊖◌, ◌⊗◌, ⊝◌, 𝟘, 𝟙, literal}
pub use Laws.{CommutativeRing}
pub use Solver.{ring, reading_atoms}

line₁ : (a b c : ℤ) → (a +ℤ b) *ℤ c ≡ c *ℤ a +ℤ c *ℤ b
line₁ a b c = ring_ℤ 3 (λ x y z. (x ⊕ y) ⊗ z ≐ z ⊗ x ⊕ z ⊗ y) tt a b c

line₂ : (a b : ℤ) → (a -ℤ pos 1) *ℤ (a +ℤ pos 1) +ℤ pos 3 *ℤ b ≡ a *ℤ a -ℤ (pos 1 -ℤ b) -ℤ neg_ℤ (b +ℤ b)
line₂ a b = ring_ℤ 2 (λ x y. (x ⊖ 𝟙) ⊗ (x ⊕ 𝟙) ⊕ literal (pos 3) ⊗ y ≐ x ⊗ x ⊖ (𝟙 ⊖ y) ⊖ ⊝ (y ⊕ y)) tt a b

-- x·z - w = y·z - w, since the difference of the sides is z·(x - y)
line₃ : (a b c d : ℤ) → a ≡ b → a *ℤ c -ℤ d ≡ b *ℤ c -ℤ d
line₃ a b c d h = ring_ℤ 4 (λ x y z w. z ⊙ x ≗ y ⟹ x ⊗ z ⊖ w ≐ y ⊗ z ⊖ w) tt a b c d h

line₄ : (a b : ℕ) → (a + b) * (a + b) ≡ a * a + 2 * (a * b) + b * b
line₄ a b = of_pos (ring_ℤ 2 (λ x y. (x ⊕ y) ⊗ (x ⊕ y) ≐ x ⊗ x ⊕ literal (pos 2) ⊗ (x ⊗ y) ⊕ y ⊗ y) tt (pos a) (pos b))

-- any ring, and any terms for atoms
line₅ : {A : Type 0} (R : CommutativeRing A) (f : ℕ → A) (c : A) → R.mul (R.add (f 0) (f 1)) c ≡ R.add (R.mul c (f 1)) (R.mul (f 0) c)
line₅ R f c = ring R 3 (λ x y z. (x ⊕ y) ⊗ z ≐ z ⊗ y ⊕ x ⊗ z) tt (f 0) (f 1) c

-- a goal that stands, with its atoms named
line₆ : (a b c : ℤ) → (a +ℤ b) *ℤ c ≡ c *ℤ a -ℤ neg_ℤ (c *ℤ b)
line₆ a b c = goal_ℤ (a ∷ b ∷ c ∷ []) (λ _ at same. simp (readings_ℤ, at 0, at 1, at 2) (same _ _ tt))

line₇ : (a : ℤ) → a *ℤ pos 1 +ℤ pos 0 ≡ pos 1 *ℤ a
line₇ a = goal_ℤ (a ∷ []) (λ ρ at same. simp (readings_ℤ, reading-zero_ℤ ρ, reading-one_ℤ ρ, at 0) (same _ _ tt))
