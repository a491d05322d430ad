-- The lines of lists, one after another, and what is expected of them.
use Rattle.std.proofs.Common.{◌≡◌, inl, inr, ℕ, zero, suc, ◌+◌, ◌-◌, ◌<◌, ◌≤◌, List, [], ◌∷◌, ◌++◌, length, map, drop, get_or, refl, sym, ◌∙◌, ap, ap₂, arith}
use Rattle.std.specs.List.{All, range_with_len}
use Rattle.std.proofs.lemmas.Bool.{cases_lt}
use Rattle.std.proofs.lemmas.List.{length-append, get_or-append_right}
use Rattle.std.proofs.lemmas.List.Elements.{All-append, All-cons, All-nil}
use Rattle.rational.specs.Rational.{ℚ}
use Rattle.rational.specs.Sum.{at}
use Rattle.lp_text.specs.Report.{value_line, value_lines}
use Rattle.report_lines.specs.FirstFlaw.{Expected, repeated, value, values}
use Rattle.report_reader.specs.Reading.{IsRising}

-- ── values ──

-- the lines of the values so far
abbrev pub so_far : List ℕ → List ℚ → List (List ℕ) → List (List ℕ)
so_far word [] names = []
so_far word (v ∷ vs) [] = []
so_far word (v ∷ vs) (name ∷ names) = value_line word v name ∷ so_far word vs names

pub so_far_more : (word : List ℕ) (vs : List ℚ) (v : ℚ) (names : List (List ℕ)) → length vs < length names
    → so_far word (vs ++ v ∷ []) names ≡ so_far word vs names ++ value_line word v (get_or names (length vs) []) ∷ []
so_far_more word vs v [] b = absurd (omega (arith, b))
so_far_more word [] v (name ∷ names) b = refl
so_far_more word (u ∷ vs) v (name ∷ names) b =
    ap (λ ls. value_line word u name ∷ ls) (so_far_more word vs v names (omega (arith, b)))

shift : (f : ℕ → List ℕ) (a n : ℕ) → map f (range_with_len (suc a) n) ≡ map (λ j. f (suc j)) (range_with_len a n)
shift f a zero = refl
shift f a (suc n) =
    let e : suc a + 1 ≡ suc (a + 1) = omega arith in
    ap (λ ls. f (suc a) ∷ ls) (ap (λ b. map f (range_with_len b n)) e ∙ shift f (a + 1) n)

pub so_far_all : (word : List ℕ) (vs : List ℚ) (names : List (List ℕ)) → length vs ≡ length names → so_far word vs names ≡ value_lines word vs names
so_far_all word [] [] e = refl
so_far_all word [] (name ∷ names) e = absurd (omega (arith, e))
so_far_all word (v ∷ vs) [] e = absurd (omega (arith, e))
so_far_all word (v ∷ vs) (name ∷ names) e =
    ap (λ ls. value_line word v name ∷ ls)
    (so_far_all word vs names (omega (arith, e)) ∙ sym (shift (λ j. value_line word (at (v ∷ vs) j) (get_or (name ∷ names) j [])) 0 (length names)))

drop_at : {X : Type 0} (xs : List X) (i : ℕ) (d : X) → i < length xs → drop i xs ≡ get_or xs i d ∷ drop (i + 1) xs
drop_at [] i d b = absurd (omega (arith, b))
drop_at (x ∷ xs) zero d b = refl
drop_at (x ∷ xs) (suc i) d b =
    let e : suc i + 1 ≡ suc (i + 1) = omega arith in
    drop_at xs i d (omega (arith, b)) ∙ ap (λ n. get_or xs i d ∷ drop n (x ∷ xs)) (sym e)

pub values_next : (word name : List ℕ) (names : List (List ℕ)) (i : ℕ) → i < length names → name ≡ get_or names i []
    → values word (drop i names) ≡ (value word name ∷ []) ++ values word (drop (i + 1) names)
values_next word name names i b is =
    ap (values word) (drop_at names i [] b) ∙ ap (λ n. value word n ∷ values word (drop (i + 1) names)) (sym is)

pub values_end : (word : List ℕ) (names : List (List ℕ)) (i : ℕ) → length names ≤ i → values word (drop i names) ≡ []
values_end word [] zero b = refl
values_end word [] (suc i) b = refl
values_end word (name ∷ names) zero b = absurd (omega (arith, b))
values_end word (name ∷ names) (suc i) b = values_end word names i (omega (arith, b))

-- ── so many lines ──

pub repeated_next : (e : ℕ → Expected) (count i : ℕ) → i < count → repeated e (count - i) ≡ (e (count - (i + 1)) ∷ []) ++ []
repeated_next e count i b =
    let n : count - i ≡ suc (count - (i + 1)) = omega arith in
    ap (repeated e) n

pub repeated_end : (e : ℕ → Expected) (count i : ℕ) → count ≤ i → repeated e (count - i) ≡ []
repeated_end e count i b =
    let n : count - i ≡ 0 = omega arith in
    ap (repeated e) n

pub map_snoc : {X : Type 0} (f : X → List ℕ) (xs : List X) (x : X) (ls ms : List (List ℕ)) → ls ≡ map f xs → ms ≡ f x ∷ [] → ls ++ ms ≡ map f (xs ++ x ∷ [])
map_snoc f xs x ls ms h k = ap₂ (λ (a b : List (List ℕ)). a ++ b) h k ∙ sym (map-snoc xs)
  where
    map-snoc : (xs : List _) → map f (xs ++ x ∷ []) ≡ map f xs ++ f x ∷ []
    map-snoc [] = refl
    map-snoc (y ∷ xs) = ap (λ ls. f y ∷ ls) (map-snoc xs)

pub all_snoc : {X : Type 0} (P : X → Type 0) (xs : List X) (x : X) → All P xs → P x → All P (xs ++ x ∷ [])
all_snoc P xs x all one = All-append P xs (x ∷ []) all (All-cons P x [] one (All-nil P))

-- ── numbers that rise ──

get_or_left : (xs ys : List ℕ) (i d : ℕ) → i < length xs → get_or (xs ++ ys) i d ≡ get_or xs i d
get_or_left [] ys i d b = absurd (omega (arith, b))
get_or_left (x ∷ xs) ys zero d b = refl
get_or_left (x ∷ xs) ys (suc i) d b = get_or_left xs ys i d (omega (arith, b))

pub rising_none : IsRising []
rising_none i b = absurd (omega (arith, b))

pub below_snoc : (xs : List ℕ) (x least : ℕ) → All (λ q. q < least) xs → least ≤ x → All (λ q. q < x + 1) (xs ++ x ∷ [])
below_snoc xs x least all low = all_snoc (λ q. q < x + 1) xs x (λ k d b. let h = all k d b in omega (arith, h, low)) (omega arith)

pub rising_snoc : (xs : List ℕ) (x least : ℕ) → All (λ q. q < least) xs → IsRising xs → least ≤ x → IsRising (xs ++ x ∷ [])
rising_snoc xs x least all rising low i b = elim (cases_lt (i + 1) (length xs)) [
  | inl inside ↦
      let here = get_or_left xs (x ∷ []) i 0 (omega (arith, inside)) in
      let next = get_or_left xs (x ∷ []) (i + 1) 0 inside in
      let h = rising i inside in
      omega (arith, here, next, h)
  | inr outside ↦
      let n = length-append xs (x ∷ []) in
      let last : i + 1 ≡ length xs = omega (arith, b, n, outside) in
      let here = get_or_left xs (x ∷ []) i 0 (omega (arith, last)) in
      let end = get_or-append_right xs (x ∷ []) (length xs) (i + 1) 0 refl (omega (arith, last)) in
      let zero_th : (i + 1) - length xs ≡ 0 = omega (arith, last) in
      let is : get_or (xs ++ x ∷ []) (i + 1) 0 ≡ x = end ∙ ap (λ k. get_or (x ∷ []) k 0) zero_th in
      let below = all i 0 (omega (arith, last)) in
      omega (arith, here, is, below, low)
]
