-- A digit and a fraction, over ten.
use Rattle.std.proofs.Common.{◌≡◌, ◌≢◌, ℕ, zero, suc, ◌+◌, ◌-◌, ◌*◌, ◌/◌, ◌%◌, ◌^◌, ◌<◌, ◌≤◌, pos, lit<, refl, sym, ◌∙◌, ap, ap₂, subst, arith}
use Rattle.std.specs.Prelude.{◌==◌, if◌then◌else◌}
use Rattle.std.specs.Int.{◌∣◌}
use Rattle.std.proofs.Math.Nat.{mul_comm, mul_assoc, mod-lt, div-add-mod, mul-div_cancel', mul-add-mod_self_left, mul-add-mod_self_right, dvd-mul_left, le_of_dvd, div-lt_iff_lt-mul, le-div_iff_mul-le, eq_of_mul-eq-mul_left, lt_of_mul-lt-mul_left, pos_of_dvd_of_pos}
use Rattle.std.proofs.lemmas.Bool.{ne_eqb, eq-eqb}
use Rattle.std.proofs.lemmas.Nat.Gcd.{dvd_refl}
use Rattle.rational.specs.Gcd.{gcd, gcd_within, IsCoprime}
use Rattle.rational.proofs.Gcd.{IsGcd-gcd, gcd_pos, dvd_of_coprime, coprime_after, coprime_comm, coprime_of_dvd, coprime-mul}
use Rattle.rational.proofs.Ring.{ring_ℤ, of_pos, ◌≐◌, ◌⊕◌, ◌⊗◌, literal}
use Rattle.exact_frac.proofs.Euclid.{gcd-rest}
use Rattle.number_fields.specs.Parts.{IsProper, IsTooFine}

-- ---- the greatest common divisor with ten

closed : (r : ℕ) → r < 10 → (if r == 0 then 10 else if r == 5 then 5 else if r % 2 == 0 then 2 else 1) ≡ gcd 10 r
unfolding gcd gcd_within
closed zero h = refl
closed (suc zero) h = refl
closed (suc (suc zero)) h = refl
closed (suc (suc (suc zero))) h = refl
closed (suc (suc (suc (suc zero)))) h = refl
closed (suc (suc (suc (suc (suc zero))))) h = refl
closed (suc (suc (suc (suc (suc (suc zero)))))) h = refl
closed (suc (suc (suc (suc (suc (suc (suc zero))))))) h = refl
closed (suc (suc (suc (suc (suc (suc (suc (suc zero)))))))) h = refl
closed (suc (suc (suc (suc (suc (suc (suc (suc (suc zero))))))))) h = refl
closed (suc (suc (suc (suc (suc (suc (suc (suc (suc (suc n)))))))))) h = absurd (omega arith)

pub shared_is : (n : ℕ) → (if n % 10 == 0 then 10 else if n % 10 == 5 then 5 else if n % 10 % 2 == 0 then 2 else 1) ≡ gcd n 10
shared_is n = closed (n % 10) (mod-lt n (lit< tt)) ∙ gcd-rest n 10

by_last : (n r : ℕ) → n % 10 ≡ r → gcd 10 r ≡ gcd n 10
by_last n r e = ap (gcd 10) (sym e) ∙ gcd-rest n 10

pub shared_ten : (n : ℕ) → n % 10 ≡ 0 → 10 ≡ gcd n 10
shared_ten n e = closed 0 (lit< tt) ∙ by_last n 0 e

pub shared_five : (n : ℕ) → n % 10 ≡ 5 → 5 ≡ gcd n 10
shared_five n e = closed 5 (lit< tt) ∙ by_last n 5 e

pub shared_two : (n : ℕ) → n % 10 ≢ 0 → n % 10 ≢ 5 → n % 10 % 2 ≡ 0 → 2 ≡ gcd n 10
shared_two n h k e =
    let picked : (if n % 10 == 0 then 10 else if n % 10 == 5 then 5 else if n % 10 % 2 == 0 then 2 else 1) ≡ 2 =
    rw (ne_eqb (n % 10) 0 h, ne_eqb (n % 10) 5 k, eq-eqb (n % 10 % 2) 0 e) refl in
    sym picked ∙ shared_is n

pub shared_one : (n : ℕ) → n % 10 ≢ 0 → n % 10 ≢ 5 → n % 10 % 2 ≢ 0 → 1 ≡ gcd n 10
shared_one n h k e =
    let picked : (if n % 10 == 0 then 10 else if n % 10 == 5 then 5 else if n % 10 % 2 == 0 then 2 else 1) ≡ 1 =
    rw (ne_eqb (n % 10) 0 h, ne_eqb (n % 10) 5 k, ne_eqb (n % 10 % 2) 0 e) refl in
    sym picked ∙ shared_is n

-- ---- the parts of a tenth

module _ (d n m : ℕ) (proper : IsProper n m) where
  abbrev pub rest : ℕ
  rest = d * (m % 10) + n % 10

  abbrev pub left : ℕ
  left = 10 / gcd rest 10

  abbrev pub above : ℕ
  above = left * (d * (m / 10) + n / 10) + rest / gcd rest 10

  ten : gcd rest 10 * left ≡ 10
  ten = mul-div_cancel' (gcd rest 10) (IsGcd-gcd rest 10).1

  pub shared_pos : 0 < gcd rest 10
  shared_pos = gcd_pos rest 10 (lit< tt)

  pub left_pos : 0 < left
  left_pos = pos_of_dvd_of_pos (subst (λ k. left ∣ k) ten (dvd-mul_left left (gcd rest 10))) (lit< tt)

  pub left_most : left ≤ 10
  left_most = le_of_dvd (lit< tt) (subst (λ k. left ∣ k) ten (dvd-mul_left left (gcd rest 10)))

  pub scaled : gcd rest 10 * above ≡ d * m + n
  scaled =
      spread (gcd rest 10) left (d * (m / 10) + n / 10) (rest / gcd rest 10)
      ∙ ap₂ (λ t r. t * (d * (m / 10) + n / 10) + r) ten (mul-div_cancel' (gcd rest 10) (IsGcd-gcd rest 10).0)
      ∙ gathers d (m / 10) (n / 10) (m % 10) (n % 10)
      ∙ ap₂ (λ x y. d * x + y) (div-add-mod m 10) (div-add-mod n 10)
    where
      spread : (g l s r : ℕ) → g * (l * s + r) ≡ g * l * s + g * r
      spread g l s r = of_pos (ring_ℤ 4 (λ g l s r. g ⊗ (l ⊗ s ⊕ r) ≐ g ⊗ l ⊗ s ⊕ g ⊗ r) tt (pos g) (pos l) (pos s) (pos r))

      gathers : (d a c b e : ℕ) → 10 * (d * a + c) + (d * b + e) ≡ d * (10 * a + b) + (10 * c + e)
      gathers d a c b e =
          of_pos (ring_ℤ 5 (λ d a c b e. literal (pos 10) ⊗ (d ⊗ a ⊕ c) ⊕ (d ⊗ b ⊕ e) ≐ d ⊗ (literal (pos 10) ⊗ a ⊕ b) ⊕ (literal (pos 10) ⊗ c ⊕ e)) tt (pos d) (pos a) (pos c) (pos b) (pos e))

  below_ten : gcd rest 10 * (left * m) ≡ 10 * m
  below_ten = sym (mul_assoc (gcd rest 10) left m) ∙ ap (λ k. k * m) ten

  pub cross : above * (10 * m) ≡ (d * m + n) * (left * m)
  cross =
      ap (λ k. above * k) (sym below_ten) ∙ turned above (gcd rest 10) (left * m) ∙ ap (λ k. k * (left * m)) scaled
    where
      turned : (a g l : ℕ) → a * (g * l) ≡ g * a * l
      turned a g l = of_pos (ring_ℤ 3 (λ a g l. a ⊗ (g ⊗ l) ≐ g ⊗ a ⊗ l) tt (pos a) (pos g) (pos l))

  pub under : d ≤ 9 → above < left * m
  under h =
      let most : d * m ≤ 9 * m = at_most d m h in
      let less : n < m = proper.under in
      lt_of_mul-lt-mul_left (gcd rest 10) (subst (λ k. k < gcd rest 10 * (left * m)) (sym scaled) (subst (λ k. d * m + n < k) (sym below_ten) (omega arith)))
    where
      at_most : (d p : ℕ) → d ≤ 9 → d * p ≤ 9 * p
      at_most d p h = grind arith

  coprime_denom : IsCoprime above m
  coprime_denom =
      coprime_of_dvd (d * m + n) m above m
      (sym (gcd-rest (d * m + n) m) ∙ ap (gcd m) (mul-add-mod_self_right d m n) ∙ gcd-rest n m ∙ proper.coprime)
      (subst (λ k. above ∣ k) scaled (dvd-mul_left above (gcd rest 10))) (dvd_refl m)

  coprime_left : IsCoprime above left
  coprime_left =
      sym (gcd-rest above left) ∙ ap (gcd left) (mul-add-mod_self_left left (d * (m / 10) + n / 10) (rest / gcd rest 10))
      ∙ gcd-rest (rest / gcd rest 10) left ∙ coprime_after rest 10 (lit< tt)

  coprime : IsCoprime above (left * m)
  coprime = coprime-mul above left m coprime_left coprime_denom

  -- each denominator that serves is at least this one
  least : (x k : ℕ) → 0 < k → x * (10 * m) ≡ (d * m + n) * k → left * m ≤ k
  least x k some e =
      let g = gcd rest 10 in
      let same : g * (x * (left * m)) ≡ g * (above * k) =
      turned x g (left * m) ∙ ap (λ t. x * t) below_ten ∙ e ∙ ap (λ t. t * k) (sym scaled) ∙ mul_assoc g above k in
      let equal : x * (left * m) ≡ above * k = eq_of_mul-eq-mul_left g shared_pos (x * (left * m)) (above * k) same in
      let divides : left * m ∣ above * k = subst (λ t. left * m ∣ t) equal (dvd-mul_left (left * m) x) in
      le_of_dvd some (dvd_of_coprime (left * m) above k (coprime_comm above (left * m) coprime) divides)
    where
      turned : (x g l : ℕ) → g * (x * l) ≡ x * (g * l)
      turned x g l = of_pos (ring_ℤ 3 (λ x g l. g ⊗ (x ⊗ l) ≐ x ⊗ (g ⊗ l)) tt (pos x) (pos g) (pos l))

  pub too_fine : 2 ^ 127 ≤ left * m → IsTooFine (d * m + n) (10 * m)
  too_fine h x k some e =
      let less : left * m ≤ k = least x k some e in
      omega arith

  pub is_proper : d ≤ 9 → left * m < 2 ^ 127 → IsProper above (left * m)
  is_proper h fits = record { coprime = coprime; under = under h; denom_below = fits }

-- ---- at the common divisor that the code has

module _ (d n m : ℕ) (proper : IsProper n m) (g : ℕ) (g_is : g ≡ gcd (d * (m % 10) + n % 10) 10) where
  pub common_pos : 0 < g
  common_pos = subst (λ k. 0 < k) (sym g_is) (shared_pos d n m proper)

  pub quotient_pos : 0 < 10 / g
  quotient_pos = subst (λ k. 0 < 10 / k) (sym g_is) (left_pos d n m proper)

  pub fine_here : (2 ^ 127 - 1) / (10 / g) < m → IsTooFine (d * m + n) (10 * m)
  fine_here h =
      let past : 2 ^ 127 - 1 < m * (10 / g) = (div-lt_iff_lt-mul quotient_pos).0 h in
      let turned : 10 / g * m ≡ m * (10 / g) = mul_comm (10 / g) m in
      let most : 2 ^ 127 ≤ 10 / g * m = omega arith in
      too_fine d n m proper (subst (λ k. 2 ^ 127 ≤ 10 / k * m) g_is most)

  denom_fits : m ≤ (2 ^ 127 - 1) / (10 / g) → 10 / g * m < 2 ^ 127
  denom_fits h =
      let within : m * (10 / g) ≤ 2 ^ 127 - 1 = (le-div_iff_mul-le quotient_pos).0 h in
      let turned : 10 / g * m ≡ m * (10 / g) = mul_comm (10 / g) m in
      omega arith

  pub proper_here : d ≤ 9 → m ≤ (2 ^ 127 - 1) / (10 / g) → IsProper (10 / g * (d * (m / 10) + n / 10) + (d * (m % 10) + n % 10) / g) (10 / g * m)
  proper_here h k =
      subst (λ g. IsProper (10 / g * (d * (m / 10) + n / 10) + (d * (m % 10) + n % 10) / g) (10 / g * m)) (sym g_is)
      (is_proper d n m proper h (subst (λ k. 10 / k * m < 2 ^ 127) g_is (denom_fits k)))

  pub cross_here : (10 / g * (d * (m / 10) + n / 10) + (d * (m % 10) + n % 10) / g) * (10 * m) ≡ (d * m + n) * (10 / g * m)
  cross_here =
      subst (λ g. (10 / g * (d * (m / 10) + n / 10) + (d * (m % 10) + n % 10) / g) * (10 * m) ≡ (d * m + n) * (10 / g * m)) (sym g_is) (cross d n m proper)

  pub above_fits : d ≤ 9 → m ≤ (2 ^ 127 - 1) / (10 / g) → 10 / g * (d * (m / 10) + n / 10) + (d * (m % 10) + n % 10) / g < 2 ^ 127
  above_fits h k =
      let parts = proper_here h k in
      let under_it : 10 / g * (d * (m / 10) + n / 10) + (d * (m % 10) + n % 10) / g < 10 / g * m = parts.under in
      let fits = denom_fits k in
      below_both _ _ under_it fits
    where
      below_both : (x y : ℕ) → x < y → y < 2 ^ 127 → x < 2 ^ 127
      below_both x y p q = omega arith

  pub first_fits : d ≤ 9 → m ≤ (2 ^ 127 - 1) / (10 / g) → 10 / g * (d * (m / 10) + n / 10) < 2 ^ 127
  first_fits h k = first_below (10 / g * (d * (m / 10) + n / 10)) ((d * (m % 10) + n % 10) / g) (above_fits h k)
    where
      first_below : (x y : ℕ) → x + y < 2 ^ 127 → x < 2 ^ 127
      first_below x y p = omega arith
