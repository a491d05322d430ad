-- Blanks behind a text change neither its bytes, as far as columns tell them, nor what is left of its parts without outer blanks.
use Rattle.std.proofs.Common.{◌≡◌, ℕ, zero, suc, ◌-◌, ◌≤◌, Bool, true, false, ◌&&◌, cond, List, [], ◌∷◌, ◌++◌, length, get_or, take, drop, replicate, reverse, refl, sym, ap, ◌∙◌, arith}
use Rattle.std.proofs.Common.{append_assoc, inl, inr}
use Rattle.std.specs.List.{list_all}
use Rattle.std.proofs.lemmas.Bool.{and_from, and_parts, cases_lt}
use Rattle.std.proofs.lemmas.List.{append-nil, reverse-append, drop-replicate, take-replicate, take_all, length-replicate}
use Rattle.std.proofs.lemmas.List.Folds.{list_all-append}
use Rattle.lp_text.specs.Cards.{is_blank, trimmed, without_leading}

-- so many blanks
abbrev pub blanks : ℕ → List ℕ
blanks k = replicate k 32

-- ── bytes ──

get_or-blanks : (k i : ℕ) → get_or (blanks k) i 32 ≡ 32
get_or-blanks zero i = refl
get_or-blanks (suc k) zero = refl
get_or-blanks (suc k) (suc i) = get_or-blanks k i

pub byte-blanks : (text : List ℕ) (k i : ℕ) → get_or (text ++ blanks k) i 32 ≡ get_or text i 32
byte-blanks [] k i = get_or-blanks k i
byte-blanks (c ∷ text) k zero = refl
byte-blanks (c ∷ text) k (suc i) = byte-blanks text k i

pub all-blanks : (p : ℕ → Bool) → p 32 ≡ true → (k : ℕ) → list_all p (blanks k) ≡ true
all-blanks p h zero = refl
all-blanks p h (suc k) = and_from (p 32) (list_all p (blanks k)) h (all-blanks p h k)

pub length-blanks : (k : ℕ) → length (blanks k) ≡ k
length-blanks k = length-replicate {A = ℕ} k 32

take-blanks : (m n : ℕ) → m ≤ n → take m (blanks n) ≡ blanks m
take-blanks m n h = take-replicate m n 32 h

drop-blanks : (m n : ℕ) → drop m (blanks n) ≡ blanks (n - m)
drop-blanks m n = drop-replicate m n 32

-- ── parts ──

abbrev nil : List ℕ
nil = []

-- a part of a text with blanks behind it is that part with blanks behind it
pub part-blanks : (text : List ℕ) (k a n : ℕ) → (j : ℕ) × (take n (drop a (text ++ blanks k)) ≡ take n (drop a text) ++ blanks j)
part-blanks [] k a n = none n (k - a) (drop-blanks a k)
  where
    none : (n m : ℕ) → drop a (blanks k) ≡ blanks m → (j : ℕ) × (take n (drop a (blanks k)) ≡ take n (drop a nil) ++ blanks j)
    none n m is = elim (cases_lt m n) [
      | inl more ↦ (m, ap (take n) is ∙ take_all n (blanks m) (omega (arith, length-blanks m)) ∙ sym (nothing n a m))
      | inr all ↦ (n, ap (take n) is ∙ take-blanks n m all ∙ sym (nothing n a n))
    ]
      where
        nothing : (n a m : ℕ) → take n (drop a nil) ++ blanks m ≡ blanks m
        nothing zero zero m = refl
        nothing zero (suc a) m = refl
        nothing (suc n) zero m = refl
        nothing (suc n) (suc a) m = refl
part-blanks (c ∷ text) k zero zero = (0, refl)
part-blanks (c ∷ text) k zero (suc n) = let rest = part-blanks text k 0 n in (rest.0, ap (λ t. c ∷ t) rest.1)
part-blanks (c ∷ text) k (suc a) n = part-blanks text k a n

without_leading-blank : (text : List ℕ) → reverse (without_leading (reverse (without_leading (text ++ 32 ∷ [])))) ≡ trimmed text
without_leading-blank [] = refl
without_leading-blank (c ∷ text) = by (is_blank c) (without_leading-blank text)
  where
    by : (b : Bool) → reverse (without_leading (reverse (without_leading (text ++ 32 ∷ [])))) ≡ trimmed text
        → reverse (without_leading (reverse (cond b (without_leading (text ++ 32 ∷ [])) (c ∷ text ++ 32 ∷ [])))) ≡ reverse (without_leading (reverse (cond b (without_leading text) (c ∷ text))))
    by true rest = rest
    by false rest = ap (λ t. reverse (without_leading t)) (reverse-append (c ∷ text) (32 ∷ []))

trimmed-blank : (text : List ℕ) → trimmed (text ++ 32 ∷ []) ≡ trimmed text
trimmed-blank text = without_leading-blank text

pub trimmed-blanks : (text : List ℕ) (k : ℕ) → trimmed (text ++ blanks k) ≡ trimmed text
trimmed-blanks text zero = ap trimmed (append-nil text)
trimmed-blanks text (suc k) = ap trimmed (sym (append_assoc text (32 ∷ []) (blanks k))) ∙ trimmed-blanks (text ++ 32 ∷ []) k ∙ trimmed-blank text

-- what each byte passes, each byte of the text turned round passes
pub all_reversed : (p : ℕ → Bool) (text : List ℕ) → list_all p text ≡ true → list_all p (reverse text) ≡ true
all_reversed p [] h = refl
all_reversed p (c ∷ text) h =
    let each = and_parts (p c) (list_all p text) h in
    ap (list_all p) (reverse-append (c ∷ []) text) ∙ list_all-append p (reverse text) (c ∷ [])
    ∙ and_from (list_all p (reverse text)) (p c && true) (all_reversed p text each.1) (and_from (p c) true each.0 refl)
