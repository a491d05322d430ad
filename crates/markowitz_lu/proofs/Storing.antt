-- One more entry of a row stored in its column.
use Rattle.std.proofs.Common.{◌≡◌, ◌≢◌, ℕ, ◌<◌, List, [], ◌∷◌, false, Some, None, Result, Ok, Err, length, get_or, set, sym, ap, ap₂, subst, ◌∙◌, ⊎_elim, get_or-set_same, get_or-set_other}
use Rattle.std.specs.Result.{OnOk, is_err}
use Rattle.std.proofs.lemmas.Bool.{cases_eq}
use Rattle.std.proofs.lemmas.List.{get_or_default}
use Rattle.rational.specs.Rational.{ℚ}
use Rattle.sparse_cols.specs.Sparse.{Sparse, value_at, with_pair}
use Rattle.factor_model.specs.Edits.{column_in}
use Rattle.factor_model.specs.Update.{AreApart}
use Rattle.markowitz_lu.specs.Inner.Kept.{IsOpen, stored_at}
use Rattle.markowitz_lu.proofs.LinkOrder.{value-here, value-there, value-lacks}

pub column_read : (columns : List (Sparse ℚ)) (p : ℕ) (x : Sparse ℚ) → p < length columns → x ≡ get_or columns p x → x ≡ column_in columns p
column_read columns p x lt e = e ∙ get_or_default columns p x (record { length = 0; pairs = [] }) lt

module _ (r : ℕ) (row : List (ℕ × ℚ)) (old now : List (Sparse ℚ)) (p0 : ℕ) (u0 : ℚ) (rest : List (ℕ × ℚ)) (x : Sparse ℚ) (apart : AreApart (length now) ((p0, u0) ∷ rest))
    (stored : (p : ℕ) → stored_at r (value_at ((p0, u0) ∷ rest) p) (column_in now p) ≡ stored_at r (value_at row p) (column_in old p))
    (waiting : (p : ℕ) (u : ℚ) → value_at ((p0, u0) ∷ rest) p ≡ Some u → (column_in now p ≡ column_in old p) × (value_at row p ≡ Some u)) where
  pub next_open : ((p : ℕ) (u : ℚ) → value_at row p ≡ Some u → IsOpen r (column_in old p)) → IsOpen r (column_in now p0)
  next_open all = let here = waiting p0 u0 (value-here p0 u0 rest) in subst (IsOpen r) (sym here.0) (all p0 u0 here.1)

  module _ (is : x ≡ with_pair (column_in now p0) r u0) where
    abbrev new : List (Sparse ℚ)
    new = set now p0 x

    here : column_in new p0 ≡ x
    here = get_or-set_same now p0 x (record { length = 0; pairs = [] }) apart.0

    there : (p : ℕ) → p ≢ p0 → column_in new p ≡ column_in now p
    there p ne = get_or-set_other now p0 p x (record { length = 0; pairs = [] }) ne

    pub stored_more : (p : ℕ) → stored_at r (value_at rest p) (column_in new p) ≡ stored_at r (value_at row p) (column_in old p)
    stored_more p =
        ⊎_elim
        (λ (e : p ≡ p0).
        subst (λ (q : ℕ). stored_at r (value_at rest q) (column_in new q) ≡ stored_at r (value_at row q) (column_in old q)) (sym e)
        (ap (λ o. stored_at r o (column_in new p0)) (value-lacks p0 rest apart.1) ∙ here ∙ is ∙ ap (λ o. stored_at r o (column_in now p0)) (sym (value-here p0 u0 rest)) ∙ stored p0))
        (λ (ne : p ≢ p0). ap₂ (stored_at r) (sym (value-there p0 p u0 rest (λ e. ne (sym e)))) (there p ne) ∙ stored p)
        (cases_eq p p0)

    pub waiting_more : (p : ℕ) (u : ℚ) → value_at rest p ≡ Some u → (column_in new p ≡ column_in old p) × (value_at row p ≡ Some u)
    waiting_more p u some =
        let ne : p ≢ p0 = λ e. (let none : value_at rest p ≡ None = ap (value_at rest) e ∙ value-lacks p0 rest apart.1 in absurd cc) in
        let before = waiting p u (value-there p0 p u0 rest (λ e. ne (sym e)) ∙ some) in
        (there p ne ∙ before.0, before.1)

-- what is given to one column is not given to the others
pub value-within : (n : ℕ) (row : List (ℕ × ℚ)) (p : ℕ) (u : ℚ) → AreApart n row → value_at row p ≡ Some u → p < n
value-within n [] p u apart some = absurd cc
value-within n ((q, x) ∷ row) p u apart some =
    ⊎_elim
    (λ (e : q ≡ p). subst (λ (s : ℕ). s < n) e apart.0)
    (λ (ne : q ≢ p). value-within n row p u apart.2 (sym (value-there q p x row ne) ∙ some))
    (cases_eq q p)

module _ (r c : ℕ) (value : ℚ) (row : List (ℕ × ℚ)) (columns : List (Sparse ℚ)) (x : Sparse ℚ) (apart : AreApart (length columns) ((c, value) ∷ row)) where
  abbrev first : List (Sparse ℚ)
  first = set columns c x

  first-here : column_in first c ≡ x
  first-here = get_or-set_same columns c x (record { length = 0; pairs = [] }) apart.0

  first-there : (p : ℕ) → p ≢ c → column_in first p ≡ column_in columns p
  first-there p ne = get_or-set_other columns c p x (record { length = 0; pairs = [] }) ne

  pub others_open : ((p : ℕ) → p < length columns → IsOpen r (column_in columns p)) → (p : ℕ) (u : ℚ) → value_at row p ≡ Some u → IsOpen r (column_in first p)
  others_open all p u some =
      let ne : p ≢ c = λ e. (let none : value_at row p ≡ None = ap (value_at row) e ∙ value-lacks c row apart.1 in absurd cc) in
      subst (IsOpen r) (sym (first-there p ne)) (all p (value-within (length columns) row p u apart.2 some))

  pub kept_columns : x ≡ with_pair (column_in columns c) r value → (p : ℕ) → stored_at r (value_at row p) (column_in first p) ≡ stored_at r (value_at ((c, value) ∷ row) p) (column_in columns p)
  kept_columns is p =
      ⊎_elim
      (λ (e : p ≡ c).
      subst (λ (q : ℕ). stored_at r (value_at row q) (column_in first q) ≡ stored_at r (value_at ((c, value) ∷ row) q) (column_in columns q)) (sym e)
      (ap (λ o. stored_at r o (column_in first c)) (value-lacks c row apart.1) ∙ first-here ∙ is ∙ ap (λ o. stored_at r o (column_in columns c)) (sym (value-here c value row))))
      (λ (ne : p ≢ c). ap₂ (stored_at r) (sym (value-there c p value row (λ e. ne (sym e)))) (first-there p ne))
      (cases_eq p c)

-- what is no refusal holds what it promises
pub kept_by : {A E P : Type 0} (r : Result A E) → false ≡ is_err r → OnOk r P → P
kept_by (Ok a) e h = h
kept_by (Err f) e h = absurd cc
