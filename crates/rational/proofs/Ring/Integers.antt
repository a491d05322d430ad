-- The integers as a commutative ring, with the solver's names for them.
use Rattle.std.specs.Prelude.{◌≡◌, ℕ, List, get_or, ℤ, pos, ◌+ℤ◌, ◌-ℤ◌, ◌*ℤ◌, neg_ℤ, nat_abs}
use Rattle.std.proofs.Common.{refl, ap, arith}
use Rattle.std.proofs.lemmas.Int.{ints}
use Rattle.std.proofs.Math.IntN.{+ℤ_assoc, +ℤ_comm, +ℤ_idr, +ℤ_invr, *ℤ_comm}
use Rattle.rational.proofs.Integer.{*ℤ_assoc, *ℤ-+ℤ}
use Rattle.rational.proofs.Ring.Expressions.{Expression, variable, 𝟘, 𝟙, ◌⊕◌, ◌⊖◌, ◌⊗◌, ⊝◌, ◌≐◌, Over, IsIdentity}
use Rattle.rational.proofs.Ring.Laws.{CommutativeRing}
use Rattle.rational.proofs.Ring.Solver.{ForAll, ring, reading, reading_atoms, reading-zero, reading-one, reading-add, reading-sub, reading-mul, reading-neg}

pub *ℤ_idr : (a : ℤ) → a *ℤ pos 1 ≡ a
*ℤ_idr a = omega (arith, ints)

abbrev pub integers : CommutativeRing ℤ
integers = record {
  zero = pos 0;
  one = pos 1;
  integer = λ z. z;
  add = ◌+ℤ◌;
  sub = ◌-ℤ◌;
  mul = ◌*ℤ◌;
  neg = neg_ℤ;
  add_assoc = +ℤ_assoc;
  add_comm = +ℤ_comm;
  add-zero = +ℤ_idr;
  add-neg = +ℤ_invr;
  sub_is = λ a b. refl;
  mul_assoc = *ℤ_assoc;
  mul_comm = *ℤ_comm;
  mul-one = *ℤ_idr;
  mul-add = *ℤ-+ℤ;
  integer-zero = refl;
  integer-one = refl;
  integer-add = λ m n. refl;
  integer-mul = λ m n. refl;
}

-- `ring` for integers
pub ring_ℤ : (n : ℕ) (f : Over n) → IsIdentity n f → ForAll integers n (λ i. pos 0) f
ring_ℤ = ring integers

-- an equation of naturals from one of integers
pub of_pos : {m n : ℕ} → pos m ≡ pos n → m ≡ n
of_pos e = ap nat_abs e

-- ---- for a goal that stands

-- `reading_atoms` for integers
pub goal_ℤ : (atoms : List ℤ) {P : Type 0}
    → ((ρ : ℕ → ℤ) → ((i : ℕ) → get_or atoms i (pos 0) ≡ reading integers ρ (variable i))
    → ((l r : Expression) → IsIdentity 0 (l ≐ r) → reading integers ρ l ≡ reading integers ρ r) → P)
    → P
goal_ℤ = reading_atoms integers

pub reading-zero_ℤ : (ρ : ℕ → ℤ) → pos 0 ≡ reading integers ρ 𝟘
reading-zero_ℤ = reading-zero integers

pub reading-one_ℤ : (ρ : ℕ → ℤ) → pos 1 ≡ reading integers ρ 𝟙
reading-one_ℤ = reading-one integers

pub reading-+ℤ : (ρ : ℕ → ℤ) (x y : Expression) → reading integers ρ x +ℤ reading integers ρ y ≡ reading integers ρ (x ⊕ y)
reading-+ℤ = reading-add integers

pub reading--ℤ : (ρ : ℕ → ℤ) (x y : Expression) → reading integers ρ x -ℤ reading integers ρ y ≡ reading integers ρ (x ⊖ y)
reading--ℤ = reading-sub integers

pub reading-*ℤ : (ρ : ℕ → ℤ) (x y : Expression) → reading integers ρ x *ℤ reading integers ρ y ≡ reading integers ρ (x ⊗ y)
reading-*ℤ = reading-mul integers

pub reading-neg_ℤ : (ρ : ℕ → ℤ) (x : Expression) → neg_ℤ (reading integers ρ x) ≡ reading integers ρ (⊝ x)
reading-neg_ℤ = reading-neg integers

pub ruleset readings_ℤ = (reading--ℤ, reading-+ℤ, reading-*ℤ, reading-neg_ℤ)
