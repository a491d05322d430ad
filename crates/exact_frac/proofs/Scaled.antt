-- Products over a divisor, and their sums.
use Rattle.std.proofs.Common.{◌≡◌, ◌≢◌, ℕ, zero, suc, ◌+◌, ◌-◌, ◌*◌, ◌/◌, ◌%◌, ◌<◌, ◌≤◌, pos, refl, sym, ◌∙◌, ap, ap₂, arith}
use Rattle.std.specs.Int.{◌∣◌}
use Rattle.std.proofs.lemmas.Nat.{mul-mod_first}
use Rattle.std.proofs.Math.Nat.{add-mod, mod-eq-sub-mod, zero-div, div-add-mod, div-mul_cancel, mul-add-div, mod-lt, mod-eq-zero_of_dvd, dvd_of_mod-eq-zero, mod-eq_of_lt, eq-one_of_dvd-one}
use Rattle.rational.specs.Gcd.{gcd}
use Rattle.rational.proofs.Ring.{ring_ℤ, of_pos, ◌≐◌, ◌⊕◌, ◌⊗◌}
use Rattle.rational.proofs.Gcd.{gcd_right}
use Rattle.exact_frac.proofs.Euclid.{gcd-rest}

-- a product over a divisor, by the quotient and the remainder of its first factor
pub scaled_quotient : (a by k : ℕ) → 0 < k → a / k * by + a % k * by / k ≡ a * by / k
scaled_quotient a by k some =
    sym (mul-add-div some (a / k * by) (a % k * by)) ∙ ap (λ n. n / k) (spread (a / k) (a % k) ∙ ap (λ n. n * by) (div-add-mod a k))
  where
    spread : (q r : ℕ) → k * (q * by) + r * by ≡ (k * q + r) * by
    spread q r = of_pos (ring_ℤ 4 (λ k q r b. k ⊗ (q ⊗ b) ⊕ r ⊗ b ≐ (k ⊗ q ⊕ r) ⊗ b) tt (pos k) (pos q) (pos r) (pos by))

-- ---- a sum over a divisor of it

halves : (x y k : ℕ) → 0 < k → (x + y) / k ≡ x / k + y / k + (x % k + y % k) / k
halves x y k some =
    ap (λ n. n / k) (sym (ap₂ ◌+◌ (div-add-mod x k) (div-add-mod y k)) ∙ regroup (k * (x / k)) (x % k) (k * (y / k)) (y % k) ∙ ap (λ n. n + (x % k + y % k)) (together (x / k) (y / k)))
    ∙ mul-add-div some (x / k + y / k) (x % k + y % k)
  where
    regroup : (a b c d : ℕ) → a + b + (c + d) ≡ a + c + (b + d)
    regroup a b c d = omega arith

    together : (p q : ℕ) → k * p + k * q ≡ k * (p + q)
    together p q = omega arith

one_time : (k s w : ℕ) → w * k ≡ s → s < 2 * k → 0 < s → w ≡ 1
one_time k s zero e h some = absurd (omega arith)
one_time k s (suc zero) e h some = refl
one_time k s (suc (suc n)) e h some = absurd (omega arith)

module _ (x y k : ℕ) (some : 0 < k) (divides : k ∣ x + y) where
  rests_divide : k ∣ x % k + y % k
  rests_divide = dvd_of_mod-eq-zero k (sym (add-mod x y k) ∙ mod-eq-zero_of_dvd k divides)

  pub sum_exact : x % k ≡ 0 → x / k + y / k ≡ (x + y) / k
  sum_exact e =
      let less : y % k < k = mod-lt y some in
      let under : x % k + y % k < k = omega arith in
      let none : x % k + y % k ≡ 0 = sym (mod-eq_of_lt under) ∙ mod-eq-zero_of_dvd k rests_divide in
      let quotient : (x % k + y % k) / k ≡ 0 = ap (λ n. n / k) none ∙ zero-div k in
      let joined = halves x y k some in
      omega arith

  pub sum_carries : x % k ≢ 0 → x / k + y / k + 1 ≡ (x + y) / k
  sum_carries e =
      let less_x : x % k < k = mod-lt x some in
      let less_y : y % k < k = mod-lt y some in
      let positive : 0 < x % k + y % k = omega arith in
      let once : (x % k + y % k) / k ≡ 1 = one_time k (x % k + y % k) ((x % k + y % k) / k) (div-mul_cancel k rests_divide) (omega arith) positive in
      let joined = halves x y k some in
      omega arith

-- ---- the greatest common divisor of a sum and a number, by remainders

pub gcd-one : (x : ℕ) → 1 ≡ gcd x 1
gcd-one x = sym (eq-one_of_dvd-one (gcd_right x 1))

-- a number less k has the same common divisors with k
pub gcd-less : (s k : ℕ) → k ≤ s → gcd (s - k) k ≡ gcd s k
gcd-less s k h = sym (gcd-rest (s - k) k) ∙ ap (gcd k) (sym (mod-eq-sub-mod h)) ∙ gcd-rest s k

gcd-rests : (x y k : ℕ) → gcd (x % k + y % k) k ≡ gcd (x + y) k
gcd-rests x y k = sym (gcd-rest (x % k + y % k) k) ∙ ap (gcd k) (sym (add-mod x y k)) ∙ gcd-rest (x + y) k

-- l and r are the remainders of x and y
module _ (x y k l r : ℕ) (l_is : l ≡ x % k) (r_is : r ≡ y % k) where
  pub gcd-sum : gcd (l + r) k ≡ gcd (x + y) k
  gcd-sum = ap₂ (λ m n. gcd (m + n) k) l_is r_is ∙ gcd-rests x y k

  pub gcd-sum_less : k ≤ l + r → gcd (l + r - k) k ≡ gcd (x + y) k
  gcd-sum_less h = gcd-less (l + r) k h ∙ gcd-sum

-- ---- at the quotients and remainders that the code has

module _ (a by k q r m l : ℕ) (q_is : q ≡ a / k) (r_is : r ≡ a % k) (m_is : m ≡ r * by / k) (l_is : l ≡ r * by % k) where
  pub scaled_is : 0 < k → q * by + m ≡ a * by / k
  scaled_is some = ap₂ (λ x y. x * by + y) q_is (m_is ∙ ap (λ x. x * by / k) r_is) ∙ scaled_quotient a by k some

  pub scaled_left_is : l ≡ a * by % k
  scaled_left_is = l_is ∙ ap (λ x. x * by % k) r_is ∙ mul-mod_first a by k

module _ (x y k p r q : ℕ) (some : 0 < k) (divides : k ∣ x + y) (p_is : p ≡ x / k) (r_is : r ≡ x % k) (q_is : q ≡ y / k) where
  pub over_exact : r ≡ 0 → p + q ≡ (x + y) / k
  over_exact e = ap₂ ◌+◌ p_is q_is ∙ sum_exact x y k some divides (sym r_is ∙ e)

  pub over_carries : r ≢ 0 → p + q + 1 ≡ (x + y) / k
  over_carries n = ap₂ (λ a b. a + b + 1) p_is q_is ∙ sum_carries x y k some divides (λ e. n (r_is ∙ e))
