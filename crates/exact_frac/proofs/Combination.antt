-- Common divisors of an integer k * n + r and of n are those of n and r.
use Rattle.std.proofs.Common.{◌≡◌, ℕ, suc, ◌+◌, ◌-◌, ◌*◌, ◌<◌, ◌≤◌, ◌⊎◌, inl, inr, ℤ, pos, negsuc, ◌+ℤ◌, ◌*ℤ◌, neg_ℤ, nat_abs, sym, subst, arith}
use Rattle.std.specs.Int.{◌∣◌}
use Rattle.std.proofs.lemmas.Int.{ints}
use Rattle.std.proofs.lemmas.Bool.{cases_lt}
use Rattle.std.proofs.Math.Nat.{dvd-add, dvd-sub, dvd-mul_left_of_dvd}
use Rattle.std.proofs.lemmas.Nat.Gcd.{dvd_antisymm}
use Rattle.rational.specs.Gcd.{gcd}
use Rattle.rational.proofs.Gcd.{IsGcd-gcd, gcd_left, gcd_right}

-- the size of a difference
size-difference : (m r : ℕ) → nat_abs (neg_ℤ (pos m) +ℤ pos r) ≡ (r - m) + (m - r)
size-difference m r = omega (arith, ints)

-- d divides both differences, of which one is 0, where it divides their sum
dvd_combination : (d n r : ℕ) (k : ℤ) → d ∣ n → d ∣ r → d ∣ nat_abs (k *ℤ pos n +ℤ pos r)
dvd_combination d n r (pos k) p q = dvd-add d (dvd-mul_left_of_dvd d p k) q
dvd_combination d n r (negsuc k) p q =
    let m : d ∣ suc k * n = dvd-mul_left_of_dvd d p (suc k) in
    subst (λ s. d ∣ s) (sym (size-difference (suc k * n) r)) (dvd-add d (dvd-sub d q m) (dvd-sub d m q))

rest_of_difference : (d m r : ℕ) → d ∣ m → d ∣ (r - m) + (m - r) → d ∣ r
rest_of_difference d m r p q = by_order (cases_lt r m)
  where
    by_order : (r < m) ⊎ (m ≤ r) → d ∣ r
    by_order (inl h) =
        let one : (r - m) + (m - r) ≡ m - r = omega arith in
        let whole : m - (m - r) ≡ r = omega arith in
        subst (λ s. d ∣ s) whole (dvd-sub d p (subst (λ s. d ∣ s) one q))
    by_order (inr h) =
        let one : (r - m) + (m - r) ≡ r - m = omega arith in
        let whole : (r - m) + m ≡ r = omega arith in
        subst (λ s. d ∣ s) whole (dvd-add d (subst (λ s. d ∣ s) one q) p)

dvd_rest : (d n r : ℕ) (k : ℤ) → d ∣ n → d ∣ nat_abs (k *ℤ pos n +ℤ pos r) → d ∣ r
dvd_rest d n r (pos k) p q =
    let whole : k * n + r - k * n ≡ r = omega arith in
    subst (λ s. d ∣ s) whole (dvd-sub d q (dvd-mul_left_of_dvd d p k))
dvd_rest d n r (negsuc k) p q =
    rest_of_difference d (suc k * n) r (dvd-mul_left_of_dvd d p (suc k)) (subst (λ s. d ∣ s) (size-difference (suc k * n) r) q)

-- k * n + r shares with n what r does
pub gcd-combination : (n r : ℕ) (k : ℤ) → gcd (nat_abs (k *ℤ pos n +ℤ pos r)) n ≡ gcd r n
gcd-combination n r k =
    let z = nat_abs (k *ℤ pos n +ℤ pos r) in
    dvd_antisymm ((IsGcd-gcd r n).2 (gcd z n) (dvd_rest (gcd z n) n r k (gcd_right z n) (gcd_left z n)) (gcd_right z n))
    ((IsGcd-gcd z n).2 (gcd r n) (dvd_combination (gcd r n) n r k (gcd_right r n) (gcd_left r n)) (gcd_right r n))
