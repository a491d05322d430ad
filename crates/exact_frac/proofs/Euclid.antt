-- Euclid's steps keep the greatest common divisor.
use Rattle.std.proofs.Common.{◌≡◌, ℕ, ◌%◌, refl}
use Rattle.std.proofs.lemmas.Nat.Gcd.{IsGcd-from_mod, IsGcd-from_zero, same_from_IsGcd}
use Rattle.rational.specs.Gcd.{gcd}
use Rattle.rational.proofs.Gcd.{IsGcd-gcd}

pub gcd-rest : (a b : ℕ) → gcd b (a % b) ≡ gcd a b
gcd-rest a b = same_from_IsGcd a b _ _ (IsGcd-from_mod a b _ (IsGcd-gcd b (a % b))) (IsGcd-gcd a b)

pub gcd-zero : (a : ℕ) → gcd a 0 ≡ a
gcd-zero a = same_from_IsGcd a 0 _ _ (IsGcd-gcd a 0) (IsGcd-from_zero a 0 refl)
