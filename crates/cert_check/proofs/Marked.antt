-- Marks of a list, number after number.
use Rattle.std.proofs.Common.{◌≡◌, ℕ, ◌<◌, Bool, true, false, ◌&&◌, ◌||◌, not, eqb, List, [], ◌∷◌, ◌++◌, get_or, set, All, ⊎_elim, refl, sym, ◌∙◌, ap, ap₂, subst, arith}
use Rattle.std.specs.List.{AllByRecursion, list_all}
use Rattle.std.proofs.lemmas.Bool.{cases_eq, eq-eqb, ne_eqb}
use Rattle.std.proofs.lemmas.List.{get_or-set_other, get_or-set_same, length-set}
use Rattle.std.proofs.lemmas.List.Elements.{recursion_from_All}
use Rattle.lp_model.specs.Basis.{Basis}
use Rattle.cert_check.specs.Items.{is_among, is_basis, is_distinct}
use Rattle.cert_check.specs.Inner.Groups.{Marks, is_marked}

-- ── one number more ──

swapped : (a b : ℕ) → eqb a b ≡ eqb b a
swapped a b = ⊎_elim (λ (same : a ≡ b). ap₂ eqb same (sym same)) (λ (other : a ≡ b → ⊥). ne_eqb a b other ∙ sym (ne_eqb b a (λ e. other (sym e)))) (cases_eq a b)

or_none : (b : Bool) → (b || false) ≡ b
or_none true = refl
or_none false = refl

or_assoc : (a b c : Bool) → (a || (b || c)) ≡ ((a || b) || c)
or_assoc true b c = refl
or_assoc false b c = refl

pub among-push : (j c : ℕ) (list : List ℕ) → is_among j (list ++ c ∷ []) ≡ (is_among j list || eqb c j)
among-push j c [] = or_none (eqb c j)
among-push j c (k ∷ list) = ap (λ t. eqb k j || t) (among-push j c list) ∙ or_assoc (eqb k j) (is_among j list) (eqb c j)

regrouped : (a e b m : Bool) → (not (a || e) && (b && not m)) ≡ ((not a && b) && not (e || m))
regrouped true e b m = refl
regrouped false true true m = refl
regrouped false true false m = refl
regrouped false false b m = refl

and_true : (b : Bool) → b ≡ (b && true)
and_true true = refl
and_true false = refl

pub distinct-push : (c : ℕ) (list : List ℕ) → is_distinct (list ++ c ∷ []) ≡ (is_distinct list && not (is_among c list))
distinct-push c [] = refl
distinct-push c (k ∷ list) =
    ap₂ (λ s t. not s && t) (among-push k c list ∙ ap (λ t. is_among k list || t) (swapped c k)) (distinct-push c list)
    ∙ regrouped (is_among k list) (eqb k c) (is_distinct list) (is_among c list)

-- ── marks ──

pub marks-more : (count : ℕ) (list : List ℕ) (marks : List Bool) (c : ℕ) → c < count → Marks count list marks → Marks count (list ++ c ∷ []) (set marks c true)
marks-more count list marks c lt before = record {
  long = length-set marks c true ∙ before.long;
  each = λ j within. ⊎_elim
      (λ (same : j ≡ c).
      subst (λ k. get_or (set marks c true) k false ≡ is_among k (list ++ c ∷ [])) (sym same)
      (get_or-set_same marks c true false (omega (arith, lt, before.long)) ∙ sym (among-push c c list ∙ ap (λ t. is_among c list || t) (eq-eqb c c refl) ∙ or_true (is_among c list))))
      (λ (other : j ≡ c → ⊥).
      get_or-set_other marks c j true false other ∙ before.each j within
      ∙ sym (among-push j c list ∙ ap (λ t. is_among j list || t) (ne_eqb c j (λ e. other (sym e))) ∙ or_none (is_among j list)))
      (cases_eq j c);
}
  where
    or_true : (b : Bool) → (b || true) ≡ true
    or_true true = refl
    or_true false = refl

-- whether none stands twice, with one number more
pub once-more : (count : ℕ) (list : List ℕ) (marks : List Bool) (c : ℕ) (once : Bool) → c < count → Marks count list marks → once ≡ is_distinct list
    → (once && not (is_marked marks c)) ≡ is_distinct (list ++ c ∷ [])
once-more count list marks c once lt before is = ap₂ (λ s t. s && not t) is (before.each c lt) ∙ sym (distinct-push c list)

-- marks tell of each number of a list whether it is in another
pub apart-same : (count : ℕ) (basic : List ℕ) (marks : List Bool) (list : List ℕ) → Marks count basic marks → AllByRecursion (λ j. j < count) list
    → list_all (λ j. not (is_marked marks j)) list ≡ list_all (λ j. not (is_among j basic)) list
apart-same count basic marks [] told below = refl
apart-same count basic marks (j ∷ list) told below = ap₂ (λ s t. not s && t) (told.each j below.0) (apart-same count basic marks list told below.1)

-- what the marks tell of a basis
pub sound-is : (count : ℕ) (b : Basis) (once : Bool) (marks : List Bool) (others : List ℕ) → once ≡ is_distinct b.basic → Marks count b.basic marks → others ≡ b.upper
    → All (λ j. j < count) b.upper → (once && list_all (λ j. not (is_marked marks j)) others) ≡ is_basis b
sound-is count b once marks others single told is below =
    ap₂ (λ s (list : List ℕ). s && list_all (λ j. not (is_marked marks j)) list) single is
    ∙ ap (λ t. is_distinct b.basic && t) (apart-same count b.basic marks b.upper told (recursion_from_All (λ j. j < count) b.upper below))
