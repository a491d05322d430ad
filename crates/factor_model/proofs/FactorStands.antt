-- Where an elimination ends: no entry is left in the rows and positions without a pivot.
use Rattle.std.proofs.Common.{◌≡◌, ◌≢◌, ℕ, zero, suc, Bool, true, false, not, cond, ltb, List, [], ◌∷◌, ◌++◌, length, map, Option, Some, None, ◌⊎◌, inl, inr, ⊎_elim, refl, sym, ◌∙◌, ap, subst, arith}
use Rattle.std.specs.List.{AllByRecursion, filter, flat_map}
use Rattle.std.proofs.lemmas.Bool.{cond-true, cond-false}
use Rattle.std.proofs.lemmas.List.{nil_from_length}
use Rattle.rational.specs.Rational.{ℚ, zero_ℚ}
use Rattle.rational.specs.Worked.{Worked, done, bind}
use Rattle.rational.proofs.AnswerLaws.{answer-bind, answer-done}
use Rattle.rational.proofs.OrderLaws.{eq_ℚ-decides, eq_ℚ-other}
use Rattle.factor_model.specs.Upper.{In}
use Rattle.factor_model.specs.Factoring.{Elimination, is_entry, cost, active_entries, better, first_least, least, eliminated, pivoted}
use Rattle.factor_model.proofs.PivotLaws.{cases_ℚ}
use Rattle.factor_model.proofs.FactorReaches.{IsReached, pivoted-reached, pivoted-rows}

-- ---- lists

pub all_append : {A : Type 0} (P : A → Type 0) (xs ys : List A) → AllByRecursion P xs → AllByRecursion P ys → AllByRecursion P (xs ++ ys)
all_append P [] ys p q = q
all_append P (x ∷ xs) ys p q = (p.0, all_append P xs ys p.1 q)

append-none : {A : Type 0} (xs ys : List A) → xs ++ ys ≡ [] → (xs ≡ []) × (ys ≡ [])
append-none [] ys nothing = (refl, nothing)
append-none (x ∷ xs) ys nothing = absurd cc

-- ---- the choice of a pivot

-- an entry that is not 0, in a row and a position left
abbrev pub IsActive : Elimination → ℕ × ℕ → Type 0
IsActive e entry = In entry.0 e.rows × In entry.1 e.positions × (e.matrix entry.0 entry.1 ≢ zero_ℚ)

module _ (e : Elimination) where
  pub entry-none : (r p : ℕ) → e.matrix r p ≡ zero_ℚ → is_entry e r p ≡ false
  entry-none r p none = ap not ((eq_ℚ-decides (e.matrix r p) zero_ℚ).1 none)

  pub entry-some : (r p : ℕ) → e.matrix r p ≢ zero_ℚ → is_entry e r p ≡ true
  entry-some r p some = ap not (eq_ℚ-other (e.matrix r p) some)

  -- the active entries of a row, and of rows
  abbrev pub of_row : ℕ → List ℕ → List (ℕ × ℕ)
  of_row r ps = map (λ p. (r, p)) (filter (λ p. is_entry e r p) ps)

  abbrev pub of_rows : List ℕ → List (ℕ × ℕ)
  of_rows rs = flat_map (λ r. of_row r e.positions) rs

  pub of_row-none : (r p : ℕ) (ps : List ℕ) → e.matrix r p ≡ zero_ℚ → of_row r (p ∷ ps) ≡ of_row r ps
  of_row-none r p ps none = ap (map (λ q. (r, q))) (cond-false (is_entry e r p) _ _ (entry-none r p none))

  pub of_row-some : (r p : ℕ) (ps : List ℕ) → e.matrix r p ≢ zero_ℚ → of_row r (p ∷ ps) ≡ (r, p) ∷ of_row r ps
  of_row-some r p ps some = ap (map (λ q. (r, q))) (cond-true (is_entry e r p) _ _ (entry-some r p some))

  row-active : (r : ℕ) (ps : List ℕ) → In r e.rows → ((p : ℕ) → In p ps → In p e.positions) → AllByRecursion (IsActive e) (of_row r ps)
  row-active r [] row held = tt
  row-active r (p ∷ ps) row held =
      let rest = row-active r ps row (λ q later. held q (inr later)) in
      ⊎_elim
      (λ (none : e.matrix r p ≡ zero_ℚ). subst (AllByRecursion (IsActive e)) (sym (of_row-none r p ps none)) rest)
      (λ (some : e.matrix r p ≢ zero_ℚ). subst (AllByRecursion (IsActive e)) (sym (of_row-some r p ps some)) ((row, held p (inl refl), some), rest))
      (cases_ℚ (e.matrix r p))

  pub rows-active : (rs : List ℕ) → ((r : ℕ) → In r rs → In r e.rows) → AllByRecursion (IsActive e) (of_rows rs)
  rows-active [] held = tt
  rows-active (r ∷ rs) held =
      all_append (IsActive e) (of_row r e.positions) (of_rows rs) (row-active r e.positions (held r (inl refl)) (λ p there. there)) (rows-active rs (λ s later. held s (inr later)))

  row-none : (r : ℕ) (ps : List ℕ) → of_row r ps ≡ [] → (p : ℕ) → In p ps → e.matrix r p ≡ zero_ℚ
  row-none r [] nothing p held = absurd held
  row-none r (q ∷ ps) nothing p held =
      ⊎_elim
      (λ (none : e.matrix r q ≡ zero_ℚ).
      ⊎_elim (λ (here : p ≡ q). ap (e.matrix r) here ∙ none) (λ (later : In p ps). row-none r ps (sym (of_row-none r q ps none) ∙ nothing) p later) held)
      (λ (some : e.matrix r q ≢ zero_ℚ). let first : (r, q) ∷ of_row r ps ≡ [] = sym (of_row-some r q ps some) ∙ nothing in absurd cc)
      (cases_ℚ (e.matrix r q))

  rows-none : (rs : List ℕ) → of_rows rs ≡ [] → (i p : ℕ) → In i rs → In p e.positions → e.matrix i p ≡ zero_ℚ
  rows-none [] nothing i p held there = absurd held
  rows-none (r ∷ rs) nothing i p held there =
      let both = append-none (of_row r e.positions) (of_rows rs) nothing in
      ⊎_elim (λ (here : i ≡ r). ap (λ j. e.matrix j p) here ∙ row-none r e.positions both.0 p there) (λ (later : In i rs). rows-none rs both.1 i p later there) held

  some_least : (weigh : ℕ × ℕ → ℕ) (entries : List (ℕ × ℕ)) (best : ℕ × ℕ) → IsActive e best → AllByRecursion (IsActive e) entries
      → (pivot : ℕ × ℕ) × (first_least weigh (Some best) entries ≡ Some pivot) × IsActive e pivot
  some_least weigh [] best active all = (best, refl, active)
  some_least weigh (entry ∷ entries) best active all = some_least weigh entries (better weigh (Some best) entry) (either (ltb (weigh entry) (weigh best))) all.1
    where
      either : (t : Bool) → IsActive e (cond t entry best)
      either true = all.0
      either false = active

  -- there is an active entry of least cost, or none at all
  pub least-cases : ((pivot : ℕ × ℕ) × (least e ≡ Some pivot) × IsActive e pivot)
      ⊎ ((least e ≡ None) × ((i p : ℕ) → In i e.rows → In p e.positions → e.matrix i p ≡ zero_ℚ))
  least-cases = by_entries (active_entries e) refl
    where
      by_entries : (entries : List (ℕ × ℕ)) → active_entries e ≡ entries
          → ((pivot : ℕ × ℕ) × (least e ≡ Some pivot) × IsActive e pivot) ⊎ ((least e ≡ None) × ((i p : ℕ) → In i e.rows → In p e.positions → e.matrix i p ≡ zero_ℚ))
      by_entries [] is = inr (ap (first_least (cost e) None) is, rows-none e.rows is)
      by_entries (entry ∷ entries) is =
          let all = subst (AllByRecursion (IsActive e)) is (rows-active e.rows (λ r held. held)) in
          let there = some_least (cost e) entries entry all.0 all.1 in
          inl (there.0, ap (first_least (cost e) None) is ∙ there.1, there.2)

-- ---- all pivots

-- an elimination at its end: it has come so far from the matrix b, and has no active entry
pub record IsEnd (n : ℕ) (b : ℕ → ℕ → ℚ) (e : Elimination) : Type 0 where
  pub reached : IsReached n b e
  pub over : (i p : ℕ) → In i e.rows → In p e.positions → e.matrix i p ≡ zero_ℚ

pub eliminated-none : (n left : ℕ) (e : Elimination) → least e ≡ None → eliminated n (suc left) e ≡ done e
eliminated-none n left e is = ap (λ (o : Option (ℕ × ℕ)). elim o [ None ↦ done e | Some pivot ↦ bind (pivoted n e pivot) (λ next. eliminated n left next) ]) is

pub eliminated-some : (n left : ℕ) (e : Elimination) (pivot : ℕ × ℕ) → least e ≡ Some pivot → eliminated n (suc left) e ≡ bind (pivoted n e pivot) (λ next. eliminated n left next)
eliminated-some n left e pivot is = ap (λ (o : Option (ℕ × ℕ)). elim o [ None ↦ done e | Some pivot ↦ bind (pivoted n e pivot) (λ next. eliminated n left next) ]) is

pub reaches : (n : ℕ) (b : ℕ → ℕ → ℚ) (left : ℕ) (e : Elimination) → IsReached n b e → length e.rows ≡ left → IsEnd n b (eliminated n left e).answer
reaches n b zero e reached count =
    subst (IsEnd n b) (sym (answer-done e)) (record {
      reached = reached;
      over = λ i p held there. absurd (subst (In i) (nil_from_length e.rows count) held);
    })
reaches n b (suc left) e reached count =
    ⊎_elim
    (λ (some : (pivot : ℕ × ℕ) × (least e ≡ Some pivot) × IsActive e pivot).
    let pivot = some.0 in
    let next = (pivoted n e pivot).answer in
    subst (IsEnd n b) (sym (ap (λ (w : Worked Elimination). w.answer) (eliminated-some n left e pivot some.1) ∙ answer-bind (pivoted n e pivot) (λ x. eliminated n left x)))
    (reaches n b left next (pivoted-reached n b e reached pivot some.2.0 some.2.1 some.2.2)
    (omega (arith, pivoted-rows n b e reached pivot some.2.0 some.2.1 some.2.2, count))))
    (λ (none : (least e ≡ None) × ((i p : ℕ) → In i e.rows → In p e.positions → e.matrix i p ≡ zero_ℚ)).
    subst (IsEnd n b) (sym (ap (λ (w : Worked Elimination). w.answer) (eliminated-none n left e none.0) ∙ answer-done e)) (record {
      reached = reached;
      over = none.1;
    }))
    (least-cases e)
