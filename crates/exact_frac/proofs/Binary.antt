-- The binary method: twos are counted apart, and of two odd numbers the smaller is taken from the larger.
use Rattle.std.proofs.Common.{◌≡◌, ◌≢◌, ℕ, zero, suc, ◌+◌, ◌-◌, ◌*◌, ◌/◌, ◌%◌, ◌^◌, ◌<◌, ◌≤◌, ◌⊎◌, inl, inr, min, refl, sym, ◌∙◌, ap, ap₂, subst, arith}
use Rattle.std.specs.Int.{◌∣◌, abs_diff}
use lib.Count.{count_trailing_zeros, under}
use Rattle.std.proofs.lemmas.Bool.{cases_lt}
use Rattle.std.proofs.lemmas.Nat.{pow-add, pow_pos, shr-shr}
use Rattle.std.proofs.lemmas.Nat.Gcd.{dvd_refl, dvd_antisymm, le_of_dvd}
use Rattle.std.proofs.Math.Nat.{mul_assoc, mul_comm, pow-suc, dvd-mul_left_of_dvd, mod-eq_of_lt}
use Rattle.rational.specs.Gcd.{gcd, IsCoprime}
use Rattle.rational.proofs.Gcd.{IsGcd-gcd, gcd-comm, gcd-scaled, dvd_of_coprime, gcd_left, gcd_right, coprime_of_dvd, coprime-mul}
use Rattle.exact_frac.proofs.Euclid.{gcd-rest, gcd-zero}
use Rattle.exact_frac.proofs.Scaled.{gcd-one, gcd-less}

-- ---- twos

odd_two : (b : ℕ) → b % 2 ≡ 1 → IsCoprime b 2
odd_two b odd = sym (gcd-rest b 2) ∙ ap (gcd 2) odd ∙ sym (gcd-one 2)

odd_power : (b j : ℕ) → b % 2 ≡ 1 → IsCoprime b (2 ^ j)
odd_power b zero odd = sym (gcd-one b)
odd_power b (suc j) odd = ap (gcd b) (pow-suc 2 j) ∙ coprime-mul b (2 ^ j) 2 (odd_power b j odd) (odd_two b odd)

-- a factor that is coprime to b shares nothing with it
gcd-apart : (a b c : ℕ) → IsCoprime b c → gcd (a * c) b ≡ gcd a b
gcd-apart a b c apart =
    let g = gcd (a * c) b in
    let in_b : g ∣ b = gcd_right (a * c) b in
    let in_product : g ∣ c * a = subst (λ n. g ∣ n) (mul_comm a c) (gcd_left (a * c) b) in
    let in_a : g ∣ a = dvd_of_coprime g c a (coprime_of_dvd b c g c apart in_b (dvd_refl c)) in_product in
    let back : gcd a b ∣ a * c = subst (λ n. gcd a b ∣ n) (mul_comm c a) (dvd-mul_left_of_dvd (gcd a b) (gcd_left a b) c) in
    dvd_antisymm ((IsGcd-gcd a b).2 g in_a in_b) ((IsGcd-gcd (a * c) b).2 (gcd a b) back (gcd_right a b))

gcd-shifted : (a b j : ℕ) → b % 2 ≡ 1 → gcd (a * 2 ^ j) b ≡ gcd a b
gcd-shifted a b j odd = gcd-apart a b (2 ^ j) (odd_power b j odd)

-- ---- a number as an odd one, shifted

record IsOddPart (n t : ℕ) : Type 0 where
  odd : n / 2 ^ t % 2 ≡ 1
  whole : n / 2 ^ t * 2 ^ t ≡ n

odd_part : (k n : ℕ) → 0 < n → n < 2 ^ k → IsOddPart n (count_trailing_zeros k n)
unfolding count_trailing_zeros
odd_part zero n some below = absurd (omega arith)
odd_part (suc k) n some below =
    by_digit (n % 2) (count_trailing_zeros k (n / 2)) refl (λ more. odd_part k (n / 2) more (omega (arith, pow-suc 2 k)))
  where
    by_digit : (d t : ℕ) → n % 2 ≡ d → (0 < n / 2 → IsOddPart (n / 2) t) → IsOddPart n (under d t)
    by_digit zero t e rest =
        let part = rest (omega arith) in
        let shift : n / 2 / 2 ^ t ≡ n / 2 ^ suc t = shr-shr n 1 t ∙ ap (λ j. n / 2 ^ j) (omega arith) in
        record {
          odd = ap (λ m. m % 2) (sym shift) ∙ part.odd;
          whole = ap₂ (λ m p. m * p) (sym shift) (pow-suc 2 t)
              ∙ sym (mul_assoc (n / 2 / 2 ^ t) (2 ^ t) 2)
              ∙ ap (λ m. m * 2) part.whole
              ∙ omega arith;
        }
    by_digit (suc zero) t e rest = record { odd = omega arith; whole = omega arith }
    by_digit (suc (suc d)) t e rest = absurd (omega arith)

pub odd_after : (k n : ℕ) → 0 < n → n < 2 ^ k → n / 2 ^ count_trailing_zeros k n % 2 ≡ 1
odd_after k n some below = (odd_part k n some below).odd

-- ---- twos of both numbers

scaled_twos : (a b s j : ℕ) → a % 2 ≡ 1 → gcd (a * 2 ^ s) (b * 2 ^ (j + s)) ≡ gcd a b * 2 ^ s
scaled_twos a b s j odd =
    ap (gcd (a * 2 ^ s)) (ap (λ p. b * p) (pow-add 2 j s) ∙ sym (mul_assoc b (2 ^ j) (2 ^ s)))
    ∙ gcd-scaled a (b * 2 ^ j) (2 ^ s) (pow_pos s)
    ∙ ap (λ g. g * 2 ^ s) (gcd-comm a (b * 2 ^ j) ∙ gcd-shifted b a j odd ∙ gcd-comm b a)

least_twos : (a b s t : ℕ) → a % 2 ≡ 1 → b % 2 ≡ 1 → gcd (a * 2 ^ s) (b * 2 ^ t) ≡ gcd a b * 2 ^ min s t
least_twos a b s t odd_a odd_b = by_order (cases_lt s t)
  where
    by_order : (s < t) ⊎ (t ≤ s) → gcd (a * 2 ^ s) (b * 2 ^ t) ≡ gcd a b * 2 ^ min s t
    by_order (inl h) =
        let more : t ≡ t - s + s = omega arith in
        let least : s ≡ min s t = omega arith in
        ap (λ j. gcd (a * 2 ^ s) (b * 2 ^ j)) more ∙ scaled_twos a b s (t - s) odd_a ∙ ap (λ j. gcd a b * 2 ^ j) least
    by_order (inr h) =
        let more : s ≡ s - t + t = omega arith in
        let least : t ≡ min s t = omega arith in
        ap (λ j. gcd (a * 2 ^ j) (b * 2 ^ t)) more ∙ gcd-comm (a * 2 ^ (s - t + t)) (b * 2 ^ t) ∙ scaled_twos b a t (s - t) odd_b
        ∙ ap₂ (λ g j. g * 2 ^ j) (gcd-comm b a) least

pub gcd_by_odd_parts : (k a b g m : ℕ) → 0 < a → 0 < b → a < 2 ^ k → b < 2 ^ k
    → g ≡ gcd (a / 2 ^ count_trailing_zeros k a) (b / 2 ^ count_trailing_zeros k b)
    → m ≡ min (count_trailing_zeros k a) (count_trailing_zeros k b) → g * 2 ^ m % 2 ^ k ≡ gcd a b
gcd_by_odd_parts k a b g m some_a some_b below_a below_b g_is m_is =
    let s = count_trailing_zeros k a in
    let t = count_trailing_zeros k b in
    let part_a = odd_part k a some_a below_a in
    let part_b = odd_part k b some_b below_b in
    let whole : g * 2 ^ m ≡ gcd a b =
    ap₂ (λ x j. x * 2 ^ j) g_is m_is ∙ sym (least_twos (a / 2 ^ s) (b / 2 ^ t) s t part_a.odd part_b.odd) ∙ ap₂ gcd part_a.whole part_b.whole in
    let most : gcd a b ≤ b = le_of_dvd some_b (gcd_right a b) in
    ap (λ n. n % 2 ^ k) whole ∙ mod-eq_of_lt (omega arith)

-- ---- a step on two odd numbers

step_down : (k a b : ℕ) → b < a → a - b < 2 ^ k → b % 2 ≡ 1 → gcd ((a - b) / 2 ^ count_trailing_zeros k (a - b)) b ≡ gcd a b
step_down k a b less below odd =
    let t = count_trailing_zeros k (a - b) in
    let part = odd_part k (a - b) (omega arith) below in
    sym (gcd-shifted ((a - b) / 2 ^ t) b t odd) ∙ ap (λ n. gcd n b) part.whole ∙ gcd-less a b (omega arith)

-- what the loop keeps: both are odd, and they share what the first two do
abbrev pub Odds : ℕ → ℕ → ℕ → Type 0
Odds a b g = (a % 2 ≡ 1) × (b % 2 ≡ 1) × (gcd a b ≡ g)

pub step_keeps : (k a b g rest least : ℕ) → Odds a b g → a ≢ b → rest < 2 ^ k → rest ≡ abs_diff a b → least ≡ min a b
    → Odds (rest / 2 ^ count_trailing_zeros k rest) least g
step_keeps k a b g rest least kept apart below rest_is least_is = by_order (cases_lt a b)
  where
    at : (x y : ℕ) → rest ≡ x → least ≡ y → Odds (x / 2 ^ count_trailing_zeros k x) y g → Odds (rest / 2 ^ count_trailing_zeros k rest) least g
    at x y e f odds =
        subst (λ n. Odds (n / 2 ^ count_trailing_zeros k n) least g) (sym e) (subst (λ n. Odds (x / 2 ^ count_trailing_zeros k x) n g) (sym f) odds)

    by_order : (a < b) ⊎ (b ≤ a) → Odds (rest / 2 ^ count_trailing_zeros k rest) least g
    by_order (inl h) =
        let under : b - a < 2 ^ k = omega arith in
        at (b - a) a (omega arith) (omega arith) (odd_after k (b - a) (omega arith) under, kept.0, step_down k b a h under kept.0 ∙ gcd-comm b a ∙ kept.2)
    by_order (inr h) =
        let under : a - b < 2 ^ k = omega arith in
        at (a - b) b (omega arith) (omega arith) (odd_after k (a - b) (omega arith) under, kept.1, step_down k a b (omega arith) under kept.1 ∙ kept.2)

-- ---- numbers that need no step

pub gcd-same : (a : ℕ) → a ≡ gcd a a
gcd-same a = dvd_antisymm ((IsGcd-gcd a a).2 a (dvd_refl a) (dvd_refl a)) (gcd_left a a)

pub one-gcd : (b : ℕ) → 1 ≡ gcd 1 b
one-gcd b = gcd-one b ∙ gcd-comm b 1

pub zero-gcd : (b : ℕ) → b ≡ gcd 0 b
zero-gcd b = sym (gcd-zero b) ∙ gcd-comm b 0
