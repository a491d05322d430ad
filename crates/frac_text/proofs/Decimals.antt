-- The places of numbers that are no whole ones, and the zeros in which whole numbers end.
use Rattle.std.proofs.Common.{◌≡◌, ◌≢◌, ℕ, zero, suc, ◌+◌, ◌*◌, ◌/◌, ◌%◌, ◌^◌, ◌<◌, ◌≤◌, inl, inr, Bool, true, false, not, length, get_or, Option}
use Rattle.std.proofs.Common.{Some, None, refl, sym, subst, ap, ap₂, add-one, below_more, ◌∙◌, arith}
use Rattle.std.specs.Prelude.{◌==◌, ◌&&◌, nat_lt, if◌then◌else◌}
use Rattle.std.specs.Int.{◌∣◌}
use Rattle.std.specs.List.{position_or_len}
use Rattle.std.proofs.Math.Arith.{mod-mul}
use Rattle.std.proofs.Math.Nat.{div-add-mod, div-div-eq-div-mul, dvd_of_mod-eq-zero, mul-add-div, mul-add-mod_self_left, div-mul-le_self}
use Rattle.std.proofs.Math.Nat.{mul-le-mul_left, mul_comm, one-le-pow, pow-le-pow_right, pow-succ'}
use Rattle.std.proofs.lemmas.Bool.{cases_Bool, cases_lt}
use Rattle.std.proofs.lemmas.Nat.{le-div}
use Rattle.std.proofs.lemmas.Nat.Gcd.{le_of_dvd}
use Rattle.std.proofs.lemmas.Bool.Decides.{nat_tests}
use Rattle.std.proofs.lemmas.List.FromFn.{get_or-range_with_len, length-range_with_len}
use Rattle.std.proofs.lemmas.List.Sums.{passes_at_first, position_or_len_is}
use Rattle.rational.specs.Gcd.{IsCoprime}
use Rattle.rational.specs.Sparse.{upto}
use Rattle.rational.proofs.Gcd.{coprime_comm, dvd_of_coprime}
use Rattle.frac_text.specs.Card.{decimal_of, places_of, zeros_of}

-- ── the first of some numbers that passes ──

at_upto : (n k : ℕ) → k < n → get_or (upto n) k 0 ≡ k
at_upto n k h = get_or-range_with_len 0 n k 0 h ∙ omega arith

-- k is the first of the numbers below n that passes, or n where none does
first_is : (p : ℕ → Bool) (n k : ℕ) → k ≤ n → ((j : ℕ) → j < k → p j ≡ false) → (k < n → p k ≡ true) → position_or_len p (upto n) ≡ k
first_is p n k most fails passes =
    position_or_len_is p (upto n) k 0 (rw length-range_with_len most)
    (λ j h. let within : j < n = omega arith in rw (at_upto n j within) (fails j h))
    (λ h. let within : k < n = rw length-range_with_len at h in rw (at_upto n k within) (passes within))

not_zero : (x : ℕ) → x ≢ 0 → (x == 0) ≡ false
not_zero x ne = grind (arith, nat_tests)

below : (a b : ℕ) → a < b → nat_lt a b ≡ true
below a b h = grind (arith, nat_tests)

not_below : (a b : ℕ) → b ≤ a → nat_lt a b ≡ false
not_below a b h = grind (arith, nat_tests)

is_zero : (x : ℕ) → (x == 0) ≡ true → x ≡ 0
is_zero x e = grind (arith, nat_tests)

-- ── powers of ten ──

power_pos : (k : ℕ) → 0 < 10 ^ k
power_pos k = one-le-pow k 10 (omega arith)

power_step : (k : ℕ) → 10 ^ (k + 1) ≡ 10 * 10 ^ k
power_step k = ap (λ m. 10 ^ m) (add-one k) ∙ pow-succ' 10 k

-- ── zeros ──

shifted : (n z : ℕ) → n % 10 ^ (z + 1) ≡ (n / 10 ^ z % 10) * 10 ^ z + n % 10 ^ z
shifted n z = ap (λ w. n % w) (power_step z) ∙ mod-mul n {m = 10} {c = 10 ^ z} (omega arith) (power_pos z)

pub zero_more : (n z rest : ℕ) → rest ≡ n / 10 ^ z → rest / 10 ≡ n / 10 ^ (z + 1)
zero_more n z rest e = ap (λ r. r / 10) e ∙ div-div-eq-div-mul n (10 ^ z) 10 ∙ ap (λ w. n / w) (mul_comm (10 ^ z) 10 ∙ sym (power_step z))

pub still_zeros : (n z rest : ℕ) → rest ≡ n / 10 ^ z → n % 10 ^ z ≡ 0 → rest % 10 ≡ 0 → n % 10 ^ (z + 1) ≡ 0
still_zeros n z rest e whole last =
    shifted n z ∙ ap₂ (λ a b. a * 10 ^ z + b) (ap (λ r. r % 10) (sym e) ∙ last) whole ∙ omega arith

no_factor : (a b : ℕ) → 0 < b → a * b ≡ 0 → a ≡ 0
no_factor zero b some e = refl
no_factor (suc a) b some e = absurd (omega arith)

no_more : (n z rest : ℕ) → rest ≡ n / 10 ^ z → n % 10 ^ z ≡ 0 → rest % 10 ≢ 0 → n % 10 ^ (z + 1) ≢ 0
no_more n z rest e whole last more =
    let sum : (rest % 10) * 10 ^ z + 0 ≡ 0 = ap₂ (λ a b. a * 10 ^ z + b) (ap (λ r. r % 10) e) (sym whole) ∙ sym (shifted n z) ∙ more in
    last (no_factor (rest % 10) (10 ^ z) (power_pos z) (omega (arith, sum)))

-- the zeros so far are all
pub zeros_are : (n z rest : ℕ) → z ≤ 39 → rest ≡ n / 10 ^ z → n % 10 ^ z ≡ 0 → ((j : ℕ) → j < z → n % 10 ^ (j + 1) ≡ 0) → (z < 39 → rest % 10 ≢ 0)
    → zeros_of n ≡ z
unfolding zeros_of
zeros_are n z rest most e whole zeros last =
    first_is (λ k. not (n % 10 ^ (k + 1) == 0)) 39 z most (λ j h. rw (zeros j h) refl)
    (λ h. ap not (not_zero (n % 10 ^ (z + 1)) (no_more n z rest e whole (last h))))

pub trimmed_is : (n z rest : ℕ) → z ≤ 39 → rest ≡ n / 10 ^ z → n % 10 ^ z ≡ 0 → ((j : ℕ) → j < z → n % 10 ^ (j + 1) ≡ 0) → (z < 39 → rest % 10 ≢ 0)
    → rest ≡ n / 10 ^ zeros_of n
trimmed_is n z rest most e whole zeros last = e ∙ ap (λ k. n / 10 ^ k) (sym (zeros_are n z rest most e whole zeros last))

-- ── places ──

-- the number is not whole with fewer places than k
abbrev pub IsBroken : ℕ → ℕ → ℕ → Type 0
IsBroken n d k = (j : ℕ) → j < k → (n * 10 ^ j) % d ≢ 0

no_places : (n d : ℕ) → IsBroken n d 38 → decimal_of n d ≡ None
unfolding places_of
no_places n d broken =
    let all : places_of n d ≡ 38 = first_is (λ k. (n * 10 ^ k) % d == 0) 38 38 (omega arith) (λ j h. not_zero ((n * 10 ^ j) % d) (broken j h)) (λ h. absurd (omega arith)) in
    rw all refl

pub past_places : (n d k : ℕ) → 37 ≤ k → IsBroken n d (k + 1) → None ≡ decimal_of n d
past_places n d k past broken = sym (no_places n d (λ j h. broken j (omega arith)))

-- a denominator above 10^37 divides none of these powers
pub too_deep : (n d : ℕ) → IsCoprime n d → 10 ^ 37 < d → None ≡ decimal_of n d
too_deep n d coprime deep = sym (no_places n d (λ j h e.
    let divides : d ∣ 10 ^ j = dvd_of_coprime d n (10 ^ j) (coprime_comm n d coprime) (dvd_of_mod-eq-zero d e) in
    let most : d ≤ 10 ^ j = le_of_dvd (power_pos j) divides in
    let power : 10 ^ j ≤ 10 ^ 37 = pow-le-pow_right (omega arith) {i = j} {j = 37} (omega arith) in
    absurd (omega (arith, most, power, deep))))

later : (n d k j : ℕ) → IsBroken n d (k + 1) → (n * 10 ^ j) % d ≡ 0 → k < j
later n d k j broken whole = elim (cases_lt k j) [ inl after ↦ after | inr before ↦ absurd (broken j (omega arith) whole) ]

grown : (n d k j : ℕ) → 0 < d → 10 ^ 12 ≤ n * 10 ^ k / d → k < j → 10 ^ 12 ≤ n * 10 ^ j / d
grown n d k j some long after =
    let powers : 10 ^ k ≤ 10 ^ j = pow-le-pow_right (omega arith) {i = k} {j = j} (omega arith) in
    let product : n * 10 ^ k ≤ n * 10 ^ j = mul-le-mul_left n powers in
    let floor : n * 10 ^ k / d * d ≤ n * 10 ^ k = div-mul-le_self (n * 10 ^ k) d in
    let more : n * 10 ^ k / d ≤ n * 10 ^ j / d = le-div (n * 10 ^ k / d) (n * 10 ^ j) d some (omega (arith, floor, product)) in
    omega (arith, long, more)

at_places : (n d : ℕ) → places_of n d < 38 → (n * 10 ^ places_of n d) % d ≡ 0
unfolding places_of
at_places n d within =
    let inside : position_or_len (λ k. (n * 10 ^ k) % d == 0) (upto 38) < length (upto 38) = rw length-range_with_len within in
    is_zero ((n * 10 ^ places_of n d) % d)
    (subst (λ k. ((n * 10 ^ k) % d == 0) ≡ true) (at_upto 38 (places_of n d) within) (passes_at_first (λ k. (n * 10 ^ k) % d == 0) (upto 38) 0 inside))

abbrev pub small_if : ℕ → ℕ → Option (ℕ × ℕ)
small_if k m = if nat_lt m (10 ^ 12) then Some (m, k) else None

abbrev decimal_if : ℕ → ℕ → Option (ℕ × ℕ)
decimal_if k m = if nat_lt k 38 && nat_lt m (10 ^ 12) then Some (m, k) else None

no_decimal : (k m : ℕ) → 10 ^ 12 ≤ m → decimal_if k m ≡ None
no_decimal k m long =
    let wide : nat_lt m (10 ^ 12) ≡ false = not_below m (10 ^ 12) long in
    elim (cases_Bool (nat_lt k 38)) [ inl within ↦ rw (within, wide) refl | inr past ↦ rw past refl ]

past_all : (k m : ℕ) → 38 ≤ k → decimal_if k m ≡ None
past_all k m past =
    let none : nat_lt k 38 ≡ false = not_below k 38 past in
    rw none refl

-- a number of more than 12 digits before its last place
pub too_long : (n d k : ℕ) → 0 < d → IsBroken n d (k + 1) → 10 ^ 12 ≤ n * 10 ^ k / d → None ≡ decimal_of n d
too_long n d k some broken long = sym (elim (cases_lt (places_of n d) 38) [
  | inl within ↦ no_decimal (places_of n d) (n * 10 ^ places_of n d / d) (grown n d k (places_of n d) some long
      (later n d k (places_of n d) broken (at_places n d within)))
  | inr past ↦ past_all (places_of n d) (n * 10 ^ places_of n d / d) past
])

some_decimal : (k m : ℕ) → k < 38 → small_if k m ≡ decimal_if k m
some_decimal k m within =
    let here : nat_lt k 38 ≡ true = below k 38 within in
    rw here refl

pub placed : (n d k w : ℕ) → k < 38 → IsBroken n d k → (n * 10 ^ k) % d ≡ 0 → w ≡ n * 10 ^ k / d → small_if k w ≡ decimal_of n d
unfolding places_of
placed n d k w within broken whole e =
    let all : places_of n d ≡ k = first_is (λ k. (n * 10 ^ k) % d == 0) 38 k (omega arith) (λ j h. not_zero ((n * 10 ^ j) % d) (broken j h)) (λ h. rw whole refl) in
    ap (λ m. small_if k m) e
    ∙ some_decimal k (n * 10 ^ k / d) within
    ∙ ap (λ j. decimal_if j (n * 10 ^ j / d)) (sym all)

regroup : (x d w r : ℕ) → d * w + r ≡ x → x * 10 ≡ d * (10 * w) + r * 10
regroup x d w r e = omega arith

-- one more digit of a long division
pub digit_more : (x d w r : ℕ) → 0 < d → w ≡ x / d → r ≡ x % d → (10 * w + r * 10 / d ≡ x * 10 / d) × (r * 10 % d ≡ x * 10 % d)
digit_more x d w r some e f =
    let parts : d * w + r ≡ x = ap₂ (λ a b. d * a + b) e f ∙ div-add-mod x d in
    let split : x * 10 ≡ d * (10 * w) + r * 10 = regroup x d w r parts in
    (sym (ap (λ y. y / d) split ∙ mul-add-div some (10 * w) (r * 10)), sym (ap (λ y. y % d) split ∙ mul-add-mod_self_left d (10 * w) (r * 10)))

ten_last : (n m : ℕ) → n * (10 * m) ≡ n * m * 10
ten_last n m = omega arith

pub digits_more : (n d k w r : ℕ) → 0 < d → w ≡ n * 10 ^ k / d → r ≡ n * 10 ^ k % d
    → (10 * w + r * 10 / d ≡ n * 10 ^ (k + 1) / d) × (r * 10 % d ≡ n * 10 ^ (k + 1) % d)
digits_more n d k w r some e f =
    let next = digit_more (n * 10 ^ k) d w r some e f in
    let power : n * 10 ^ k * 10 ≡ n * 10 ^ (k + 1) = sym (ap (λ m. n * m) (power_step k) ∙ ten_last n (10 ^ k)) in
    (next.0 ∙ ap (λ x. x / d) power, next.1 ∙ ap (λ x. x % d) power)

pub broken_more : (n d k : ℕ) → IsBroken n d k → (n * 10 ^ k) % d ≢ 0 → IsBroken n d (k + 1)
broken_more n d k broken last = below_more _ _ broken last
