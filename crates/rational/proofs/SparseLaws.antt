-- Laws of unit vectors and of sparse lists.
use Rattle.std.proofs.Common.{◌≡◌, ◌≢◌, ℕ, ◌+◌, ◌≤◌, Bool, true, false, List, [], ◌∷◌, length, cond, eqb, eq-eqb, ne_eqb, refl, ap, arith}
use Rattle.rational.specs.Rational.{ℚ, zero_ℚ, one_ℚ, ◌*ℚ◌}
use Rattle.rational.specs.Sparse.{IsSparse, at_index}
use Rattle.rational.proofs.RationalRing.{ring_ℚ}
use Rattle.rational.proofs.Ring.{◌≐◌, ◌⊗◌, 𝟘, 𝟙}

pub at_index-same : (k : ℕ) (v : ℚ) → at_index k k v ≡ v
at_index-same k v = ap (λ b. cond b v zero_ℚ) (eq-eqb k k refl)

pub at_index-other : (i k : ℕ) (v : ℚ) → i ≢ k → at_index i k v ≡ zero_ℚ
at_index-other i k v other = ap (λ b. cond b v zero_ℚ) (ne_eqb i k other)

pub at_index-scaled : (i k : ℕ) (v : ℚ) → at_index i k v ≡ v *ℚ at_index i k one_ℚ
at_index-scaled i k v = by_test (eqb i k)
  where
    by_test : (b : Bool) → cond b v zero_ℚ ≡ v *ℚ cond b one_ℚ zero_ℚ
    by_test true = ring_ℚ 1 (λ v. v ≐ v ⊗ 𝟙) tt v
    by_test false = ring_ℚ 1 (λ v. 𝟘 ≐ v ⊗ 𝟘) tt v

length-sparse : (m from : ℕ) (pairs : List (ℕ × ℚ)) → from ≤ m → IsSparse m from pairs → from + length pairs ≤ m
length-sparse m from [] within sparse = omega arith
length-sparse m from ((k, v) ∷ pairs) within sparse =
    let more : k + 1 + length pairs ≤ m = length-sparse m (k + 1) pairs (omega (arith, sparse.1)) sparse.3 in
    omega (arith, sparse.0)

-- a sparse list is no longer than its indices are many
pub length-le-sparse : (m : ℕ) (pairs : List (ℕ × ℚ)) → IsSparse m 0 pairs → length pairs ≤ m
length-le-sparse m pairs sparse = omega (arith, length-sparse m 0 pairs (omega arith) sparse)
