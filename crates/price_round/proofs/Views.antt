-- How often a chunk stands in the lists of a view.
use Rattle.std.proofs.Common.{◌≡◌, ◌≢◌, ℕ, zero, suc, ◌+◌, ◌<◌, ◌⊎◌, eqb, Some, not, List, [], ◌∷◌, sym, ap, refl, ◌∙◌, arith, ⊎_elim, inl, inr, subst}
use Rattle.std.specs.Prelude.{All, Contains}
use Rattle.std.specs.List.{AllByRecursion}
use Rattle.std.proofs.lemmas.Bool.{eq-eqb, ne_eqb, cases_eq, cond-true, cond-false}
use Rattle.std.proofs.lemmas.List.Elements.{All-from_recursion}
use Rattle.std.proofs.lemmas.List.Sums.{sum_by-cons}
use Rattle.counting.specs.Counting.{one_if, times}
use Rattle.counting.proofs.Times.{one_if-same}
use Rattle.price_round.specs.declared.view.Plan.{Plan}
use Rattle.price_round.specs.declared.view.View.{View}
use Rattle.price_round.specs.Rounds.{no_code, without}
use Rattle.price_round.proofs.Codes.{one_if-other}

pub times-cons : (x y : ℕ) (ys : List ℕ) → times x (y ∷ ys) ≡ one_if x y + times x ys
times-cons x y ys = sum_by-cons (one_if x) y ys

-- what stands in the list stands there at least once
pub times-contains : (xs : List ℕ) (x : ℕ) → Contains xs x → 0 < times x xs
times-contains [] x (k, less, is) = absurd (omega arith)
times-contains (y ∷ ys) x (zero, less, is) = omega (arith, times-cons x y ys, one_if-same x y (sym is))
times-contains (y ∷ ys) x (suc k, less, is) = omega (arith, times-cons x y ys, times-contains ys x (k, omega arith, is))

-- what holds of each number that stands in the list
below_each : (n : ℕ) (xs : List ℕ) → ((x : ℕ) → 0 < times x xs → x < n) → AllByRecursion (λ x. x < n) xs
below_each n [] each = tt
below_each n (y ∷ ys) each = (
  each y (omega (arith, times-cons y y ys, one_if-same y y refl)),
  below_each n ys (λ x more. each x (omega (arith, times-cons x y ys))),
)

pub times-below : (n : ℕ) (xs : List ℕ) → ((x : ℕ) → 0 < times x xs → x < n) → All (λ x. x < n) xs
times-below n xs each = All-from_recursion (λ x. x < n) xs (below_each n xs each)

without-same : (x y : ℕ) (ys : List ℕ) → y ≡ x → without x (y ∷ ys) ≡ without x ys
without-same x y ys e = cond-false (not (eqb y x)) _ _ (ap not (eq-eqb y x e))

without-other : (x y : ℕ) (ys : List ℕ) → y ≢ x → without x (y ∷ ys) ≡ y ∷ without x ys
without-other x y ys apart = cond-true (not (eqb y x)) _ _ (ap not (ne_eqb y x apart))

pub times-without-same : (x : ℕ) (xs : List ℕ) → times x (without x xs) ≡ 0
times-without-same x [] = refl
times-without-same x (y ∷ ys) = ⊎_elim
    (λ (e : y ≡ x). ap (times x) (without-same x y ys e) ∙ times-without-same x ys)
    (λ (apart : y ≢ x). ap (times x) (without-other x y ys apart)
    ∙ omega (arith, times-cons x y (without x ys), one_if-other x y (λ e. apart (sym e)), times-without-same x ys))
    (cases_eq y x)

pub times-without-other : (z x : ℕ) (xs : List ℕ) → z ≢ x → times z (without x xs) ≡ times z xs
times-without-other z x [] else = refl
times-without-other z x (y ∷ ys) else = ⊎_elim
    (λ (e : y ≡ x). ap (times z) (without-same x y ys e)
    ∙ omega (arith, times-cons z y ys, one_if-other z y (λ same. else (same ∙ e)), times-without-other z x ys else))
    (λ (apart : y ≢ x). ap (times z) (without-other x y ys apart)
    ∙ omega (arith, times-cons z y (without x ys), times-cons z y ys, times-without-other z x ys else))
    (cases_eq y x)

-- a chunk that stands in the list once goes from one list to another
pub times-moved : (z x : ℕ) (held done : List ℕ) → times x held ≡ 1 → times z (without x held) + times z (x ∷ done) ≡ times z held + times z done
times-moved z x held done once = ⊎_elim
    (λ (e : z ≡ x).
    let P = λ (k : ℕ). times k (without x held) + times k (x ∷ done) ≡ times k held + times k done in
    subst P (sym e) (omega (arith, times-without-same x held, times-cons x x done, one_if-same x x refl)))
    (λ (apart : z ≢ x). omega (arith, times-without-other z x held apart, times-cons z x done, one_if-other z x apart))
    (cases_eq z x)

-- a number of the longer list is the new one or stood there before
pub times-new : (z x : ℕ) (xs : List ℕ) → 0 < times z (x ∷ xs) → (z ≡ x) ⊎ (0 < times z xs)
times-new z x xs more = ⊎_elim (λ (e : z ≡ x). inl e)
    (λ (apart : z ≢ x). inr (omega (arith, times-cons z x xs, one_if-other z x apart))) (cases_eq z x)

-- a view that has done nothing
abbrev pub fresh_view : Plan → ℕ → View
fresh_view plan parts = record { parts = parts; nones = 0; held = []; done = []; seen = no_code; plan = Some plan }

-- the number after the last one
abbrev pub next_of : List ℕ → ℕ
next_of [] = 0
next_of (x ∷ xs) = x + 1
