-- The digits of a number by their places.
use Rattle.std.proofs.Common.{◌≡◌, ℕ, suc, ◌+◌, ◌-◌, ◌*◌, ◌/◌, ◌%◌, ◌^◌, ◌<◌, ◌≤◌, List, [], ◌∷◌, ◌++◌, length, take, drop, get_or, true, pos, lit<, sym, ◌∙◌, ap, subst, arith, length-append, length-drop, take-append-drop, pow-add}
use Rattle.std.specs.Prelude.{fold}
use Rattle.std.specs.List.{list_all}
use Rattle.std.proofs.Math.Nat.{pow-suc, one-le-pow, pow-le-pow_right, div-div-eq-div-mul, div-add-mod, div-le_self, div-eq_of_lt, mod-lt, mod-eq_of_lt, mul-add-div_right, mul-add-mod_self_right, div-lt_iff_lt-mul, le-div_iff_mul-le}
use Rattle.std.proofs.Math.ListN.{get_or-append}
use Rattle.std.proofs.lemmas.Bool.{leb-true, and_from, and_parts}
use Rattle.std.proofs.lemmas.List.{length-take-le, take_more, get_or-append-add}
use Rattle.std.proofs.lemmas.List.Folds.{list_all-append}
use Rattle.std.proofs.lemmas.List.Sums.{fold-append}
use Rattle.lp_text.specs.Digits.{digits_value, is_digit}
use Rattle.rational.proofs.Ring.{ring_ℤ, of_pos, ◌≐◌, ◌⊕◌, ◌⊗◌, 𝟘, literal}

pub ten_pos : (k : ℕ) → 0 < 10 ^ k
ten_pos k = omega (arith, one-le-pow k 10 (lit< tt))

pub tens : (k : ℕ) → 10 ^ suc k ≡ 10 ^ k * 10
tens k = pow-suc 10 k

pub tens_more : (k : ℕ) → 10 ^ (k + 1) ≡ 10 ^ k * 10
tens_more k = pow-add 10 k 1

-- ---- texts of digits alone

all_both : (a b : List ℕ) → list_all is_digit a ≡ true → list_all is_digit b ≡ true → list_all is_digit (a ++ b) ≡ true
all_both a b e f = list_all-append is_digit a b ∙ and_from (list_all is_digit a) (list_all is_digit b) e f

all_parts : (a b : List ℕ) → list_all is_digit (a ++ b) ≡ true → (list_all is_digit a ≡ true) × (list_all is_digit b ≡ true)
all_parts a b e = and_parts (list_all is_digit a) (list_all is_digit b) (sym (list_all-append is_digit a b) ∙ e)

-- ---- the value of digits

started : (n d p v : ℕ) → (10 * n + d) * p + v ≡ n * (p * 10) + ((10 * 0 + d) * p + v)
started n d p v =
    of_pos (ring_ℤ 4 (λ n d p v. (literal (pos 10) ⊗ n ⊕ d) ⊗ p ⊕ v ≐ n ⊗ (p ⊗ literal (pos 10)) ⊕ ((literal (pos 10) ⊗ 𝟘 ⊕ d) ⊗ p ⊕ v)) tt (pos n) (pos d) (pos p) (pos v))

pub value-from : (ds : List ℕ) (n : ℕ) → fold (λ n c. 10 * n + (c - 48)) n ds ≡ n * 10 ^ length ds + digits_value ds
value-from [] n = omega arith
value-from (c ∷ ds) n =
    value-from ds (10 * n + (c - 48))
    ∙ started n (c - 48) (10 ^ length ds) (digits_value ds)
    ∙ ap (λ p. n * p + ((10 * 0 + (c - 48)) * 10 ^ length ds + digits_value ds)) (sym (tens (length ds)))
    ∙ ap (λ v. n * 10 ^ suc (length ds) + v) (sym (value-from ds (10 * 0 + (c - 48))))

pub value-append : (a b : List ℕ) → digits_value (a ++ b) ≡ digits_value a * 10 ^ length b + digits_value b
value-append a b = fold-append (λ n c. 10 * n + (c - 48)) 0 a b ∙ value-from b (digits_value a)

pub digit_below : (c : ℕ) → is_digit c ≡ true → c - 48 ≤ 9
digit_below c t =
    let most : c ≤ 57 = leb-true c 57 (and_parts _ _ t).1 in
    omega arith

pub value_below : (ds : List ℕ) → list_all is_digit ds ≡ true → digits_value ds < 10 ^ length ds
value_below [] t = lit< tt
value_below (c ∷ ds) t =
    let each = and_parts _ _ t in
    let rest : digits_value ds < 10 ^ length ds = value_below ds each.1 in
    let first : c - 48 ≤ 9 = digit_below c each.0 in
    let value : digits_value (c ∷ ds) ≡ (10 * 0 + (c - 48)) * 10 ^ length ds + digits_value ds = value-from ds (10 * 0 + (c - 48)) in
    let more : 10 ^ suc (length ds) ≡ 10 ^ length ds * 10 = tens (length ds) in
    let times : (10 * 0 + (c - 48)) * 10 ^ length ds ≤ 9 * 10 ^ length ds = at_most (10 * 0 + (c - 48)) (10 ^ length ds) (omega arith) in
    omega arith
  where
    at_most : (d p : ℕ) → d ≤ 9 → d * p ≤ 9 * p
    at_most d p h = grind arith

-- few digits spell a small number
pub short_below : (ds : List ℕ) (k : ℕ) → list_all is_digit ds ≡ true → length ds ≤ k → digits_value ds < 10 ^ k
short_below ds k all few =
    let most : 10 ^ length ds ≤ 10 ^ k = pow-le-pow_right (lit< tt) few in
    omega (arith, value_below ds all)

-- so do the digits before the last of a few
pub short_whole : (a b : List ℕ) (i : ℕ) → list_all is_digit a ≡ true → i < length a → length a + length b ≤ 18 → digits_value (take i a) < 10 ^ 17
short_whole a b i all h few =
    short_below (take i a) 17 (all_parts (take i a) (drop i a) (ap (list_all is_digit) (take-append-drop i a) ∙ all)).0 (omega (arith, length-take-le i a (omega arith)))

pub short_decimals : (a b : List ℕ) (i : ℕ) → list_all is_digit a ≡ true → list_all is_digit b ≡ true → i < length b → length a + length b ≤ 18 → digits_value (a ++ take i b) < 10 ^ 17
short_decimals a b i s t h few =
    short_below (a ++ take i b) 17 (all_both a (take i b) s (all_parts (take i b) (drop i b) (ap (list_all is_digit) (take-append-drop i b) ∙ t)).0)
    (omega (arith, length-append a (take i b), length-take-le i b (omega arith)))

pub short_all : (a b : List ℕ) → list_all is_digit a ≡ true → list_all is_digit b ≡ true → length a + length b ≤ 18 → digits_value (a ++ b) < 10 ^ 18
short_all a b s t few = short_below (a ++ b) 18 (all_both a b s t) (omega (arith, length-append a b))

-- ---- the digit at a place

digit_alone : (c : ℕ) → digits_value (c ∷ []) ≡ c - 48
digit_alone c = omega arith

last_digit : (a : List ℕ) (c : ℕ) → c - 48 ≤ 9 → digits_value (a ++ c ∷ []) % 10 ≡ c - 48
last_digit a c h =
    ap (λ n. n % 10) (value-append a (c ∷ [])) ∙ mul-add-mod_self_right (digits_value a) 10 (digits_value (c ∷ [])) ∙ ap (λ n. n % 10) (digit_alone c) ∙ mod-eq_of_lt (omega arith)

front_value : (a b : List ℕ) → list_all is_digit b ≡ true → digits_value (a ++ b) / 10 ^ length b ≡ digits_value a
front_value a b t =
    ap (λ n. n / 10 ^ length b) (value-append a b) ∙ mul-add-div_right (ten_pos (length b)) (digits_value a) (digits_value b)
    ∙ ap (λ n. digits_value a + n) (div-eq_of_lt (value_below b t)) ∙ no_more (digits_value a)
  where
    no_more : (n : ℕ) → n + 0 ≡ n
    no_more n = omega arith

at_all : (a : List ℕ) (c : ℕ) (b : List ℕ) → list_all is_digit ((a ++ c ∷ []) ++ b) ≡ true → c - 48 ≤ 9
at_all a c b t = digit_below c (and_parts _ _ (all_parts a (c ∷ []) (all_parts (a ++ c ∷ []) b t).0).1).0

pub digit_at : (ds : List ℕ) (i place d : ℕ) → list_all is_digit ds ≡ true → place + (i + 1) ≡ length ds → get_or ds i d - 48 ≡ digits_value ds / 10 ^ place % 10
digit_at ds i place d t e =
    let within : i < length ds = omega arith in
    let c = get_or ds i d in
    let a = take i ds in
    let b = drop (i + 1) ds in
    let split : (a ++ c ∷ []) ++ b ≡ ds = ap (λ (l : List ℕ). l ++ b) (sym (take_more ds i d within)) ∙ take-append-drop (i + 1) ds in
    let all : list_all is_digit ((a ++ c ∷ []) ++ b) ≡ true = ap (list_all is_digit) split ∙ t in
    let long : length b ≡ place = length-drop (i + 1) ds ∙ omega arith in
    sym (ap (λ (l : List ℕ). digits_value l / 10 ^ place % 10) (sym split)
    ∙ ap (λ k. digits_value ((a ++ c ∷ []) ++ b) / 10 ^ k % 10) (sym long)
    ∙ ap (λ n. n % 10) (front_value (a ++ c ∷ []) b (all_parts (a ++ c ∷ []) b all).1)
    ∙ last_digit a c (at_all a c b all))

-- a digit after the point, and one before it
pub decimal_at : (a b : List ℕ) (place d : ℕ) → list_all is_digit a ≡ true → list_all is_digit b ≡ true → place < length b
    → get_or b (length b - 1 - place) d - 48 ≡ digits_value (a ++ b) / 10 ^ place % 10
decimal_at a b place d s t h =
    let long : length (a ++ b) ≡ length a + length b = length-append a b in
    ap (λ n. n - 48) (sym (get_or-append-add a b (length b - 1 - place) d))
    ∙ digit_at (a ++ b) (length a + (length b - 1 - place)) place d (all_both a b s t) (omega arith)

pub whole_at : (a b : List ℕ) (place d : ℕ) → list_all is_digit a ≡ true → list_all is_digit b ≡ true → length b ≤ place → place - length b < length a
    → get_or a (length a - 1 - (place - length b)) d - 48 ≡ digits_value (a ++ b) / 10 ^ place % 10
whole_at a b place d s t h k =
    let long : length (a ++ b) ≡ length a + length b = length-append a b in
    ap (λ n. n - 48) (sym (get_or-append a b d (length a - 1 - (place - length b)) (omega arith)))
    ∙ digit_at (a ++ b) (length a - 1 - (place - length b)) place d (all_both a b s t) (omega arith)

pub past_first : (a b : List ℕ) (place : ℕ) → list_all is_digit a ≡ true → list_all is_digit b ≡ true → length a + length b ≤ place → digits_value (a ++ b) / 10 ^ place ≡ 0
past_first a b place s t h =
    let long : length (a ++ b) ≡ length a + length b = length-append a b in
    let under : digits_value (a ++ b) < 10 ^ length (a ++ b) = value_below (a ++ b) (all_both a b s t) in
    let more : 10 ^ length (a ++ b) ≤ 10 ^ place = pow-le-pow_right (lit< tt) (omega arith) in
    div-eq_of_lt (omega arith)

pub no_digit : (a b : List ℕ) (place : ℕ) → list_all is_digit a ≡ true → list_all is_digit b ≡ true → length b ≤ place → length a ≤ place - length b → 0 ≡ digits_value (a ++ b) / 10 ^ place % 10
no_digit a b place s t h k = sym (ap (λ n. n % 10) (past_first a b place s t (omega arith)))

-- ---- from place to place

pub place_before : (n k : ℕ) → n / 10 ^ k ≡ 10 * (n / 10 ^ (k + 1)) + n / 10 ^ k % 10
place_before n k =
    sym (div-add-mod (n / 10 ^ k) 10)
    ∙ ap (λ m. 10 * m + n / 10 ^ k % 10) (div-div-eq-div-mul n (10 ^ k) 10 ∙ ap (λ m. n / m) (sym (tens_more k)))

pub fewer_places : (n i k : ℕ) → i ≤ k → n / 10 ^ k ≤ n / 10 ^ i
fewer_places n i k h =
    let apart : i + (k - i) ≡ k = omega arith in
    subst (λ m. n / 10 ^ m ≤ n / 10 ^ i) apart
    (subst (λ m. m ≤ n / 10 ^ i) (div-div-eq-div-mul n (10 ^ i) (10 ^ (k - i)) ∙ ap (λ m. n / m) (sym (pow-add 10 i (k - i))))
    (div-le_self (n / 10 ^ i) (10 ^ (k - i))))

-- the remainder gains the digit of the next place
pub rest_after : (n k : ℕ) → n % 10 ^ (k + 1) ≡ n / 10 ^ k % 10 * 10 ^ k + n % 10 ^ k
rest_after n k =
    let p = 10 ^ k in
    let d = n / p % 10 in
    let r = n % p in
    let h = n / p / 10 in
    let rest_under : r < p = mod-lt n (ten_pos k) in
    let digit_under : d < 10 = mod-lt (n / p) (lit< tt) in
    let above : 10 * h + d ≡ n / p = div-add-mod (n / p) 10 in
    let whole : p * (n / p) + r ≡ n = div-add-mod n p in
    let spread : h * (p * 10) + (d * p + r) ≡ n = joins h d p r ∙ ap (λ m. p * m + r) above ∙ whole in
    ap (λ m. n % m) (tens_more k)
    ∙ ap (λ m. m % (p * 10)) (sym spread)
    ∙ mul-add-mod_self_right h (p * 10) (d * p + r)
    ∙ mod-eq_of_lt (under d p r digit_under rest_under)
  where
    joins : (h d p r : ℕ) → h * (p * 10) + (d * p + r) ≡ p * (10 * h + d) + r
    joins h d p r = of_pos (ring_ℤ 4 (λ h d p r. h ⊗ (p ⊗ literal (pos 10)) ⊕ (d ⊗ p ⊕ r) ≐ p ⊗ (literal (pos 10) ⊗ h ⊕ d) ⊕ r) tt (pos h) (pos d) (pos p) (pos r))

    at_most : (d p : ℕ) → d ≤ 9 → d * p ≤ 9 * p
    at_most d p h = grind arith

    under : (d p r : ℕ) → d < 10 → r < p → d * p + r < p * 10
    under d p r s t =
        let most : d * p ≤ 9 * p = at_most d p (omega arith) in
        omega arith

-- ---- the front digits, one by one

pub front_more : (n k : ℕ) → 0 < k → 10 * (n / 10 ^ k) + n / 10 ^ (k - 1) % 10 ≡ n / 10 ^ (k - 1)
front_more n k some = subst (λ j. 10 * (n / 10 ^ j) + n / 10 ^ (k - 1) % 10 ≡ n / 10 ^ (k - 1)) (back k some) (sym (place_before n (k - 1)))
  where
    back : (k : ℕ) → 0 < k → k - 1 + 1 ≡ k
    back k some = omega arith

pub front_large : (n i k number last : ℕ) → 0 < k → i ≤ k - 1 → number ≡ n / 10 ^ k → last ≡ n / 10 ^ (k - 1) % 10 → (2 ^ 127 - 1 - last) / 10 < number → 2 ^ 127 ≤ n / 10 ^ i
front_large n i k number last some h e f large =
    let past : 2 ^ 127 - 1 - last < number * 10 = (div-lt_iff_lt-mul (lit< tt)).0 large in
    let next : 10 * (n / 10 ^ k) + n / 10 ^ (k - 1) % 10 ≡ n / 10 ^ (k - 1) = front_more n k some in
    let fewer : n / 10 ^ (k - 1) ≤ n / 10 ^ i = fewer_places n i (k - 1) h in
    omega arith

pub front_small : (number last : ℕ) → last < 10 → number ≤ (2 ^ 127 - 1 - last) / 10 → 10 * number + last < 2 ^ 127
front_small number last h k =
    let within : number * 10 ≤ 2 ^ 127 - 1 - last = (le-div_iff_mul-le (lit< tt)).0 k in
    omega arith
