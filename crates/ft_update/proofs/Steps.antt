-- The next multiplier of a list, one multiplier, and the positions behind one.
use Rattle.std.proofs.Common.{◌≡◌, ◌≢◌, ℕ, ◌+◌, ◌*◌, ◌<◌, ◌≤◌, eqb, List, [], ◌∷◌, ◌++◌, length, drop, get_or, Option, Some, None, Result, Ok, Err, ⊎_elim, refl, sym, ◌∙◌, ap, ap₂, subst, length-append, arith}
use Rattle.std.proofs.lemmas.Bool.{cases_eq, eq-eqb, ne_eqb, cond-true, cond-false}
use Rattle.std.proofs.lemmas.List.{at_drop_more, at_drop_all}
use Rattle.chain_links.specs.Lists.{after, from, rest}
use Rattle.rational.specs.Rational.{ℚ, zero_ℚ, ◌/ℚ◌}
use Rattle.rational.specs.Worked.{done, bind, less, work, quotient, settle}
use Rattle.rational.proofs.Settling.{settle-bind, settle-bind_none}
use Rattle.exact_frac.specs.declared.unfit.Unfit.{Unfit}
use Rattle.exact_frac.specs.Exact.{Exact}
use Rattle.exact_frac.specs.Settles.{Settles}
use Rattle.exact_frac.proofs.Working.{settles-exact}
use Rattle.factor_model.specs.Vectors.{stored_pair}
use Rattle.factor_model.specs.Upper.{Triangle, IsUpper, In, row_of, cell, diagonal}
use Rattle.factor_model.specs.Update.{less_multiples, multiplier, multipliers, behind}
use Rattle.factor_model.proofs.UpperShape.{in_order, order_length}
use Rattle.factor_model.proofs.SparseLaws.{stored_cases}
use Rattle.upper_form.proofs.Steps.{quotient-none}
use Rattle.upper_form.proofs.Walk.{walk_on}

module _ (item : ℕ → ℚ) (ks : List (ℕ × ℚ)) (j : ℕ) where
  pub less_parts : (p : ℕ × ℚ) (x y : ℚ) → j < length ks → p ≡ get_or ks j p → y ≡ item p.0
      → less_multiples item x (drop j ks) ≡ bind (less x p.1 y) (λ rest. less_multiples item rest (drop (j + 1) ks))
  less_parts p x y lt found read =
      at_drop_more (less_multiples item x) ks j p lt
      ∙ ap (λ (q : ℕ × ℚ). less_multiples item x (q ∷ drop (j + 1) ks)) (sym found)
      ∙ ap (λ z. bind (less x p.1 z) (λ rest. less_multiples item rest (drop (j + 1) ks))) (sym read)

  pub less_ends : (x : ℚ) → length ks ≤ j → less_multiples item x (drop j ks) ≡ done x
  less_ends x le = at_drop_all (less_multiples item x) ks j le

-- ---- one multiplier

module _ (w : ℕ) (u : Triangle) (r : ℕ) (ks : List (ℕ × ℚ)) (s : ℕ) (x : ℚ) (same : x ≡ cell u r s) where
  begun : settle w (less_multiples (λ i. cell u i s) (cell u r s) ks) ≡ settle w (less_multiples (λ i. cell u i s) x ks)
  begun = ap (λ y. settle w (less_multiples (λ i. cell u i s) y ks)) (sym same)

  pub multiplier_stops : settle w (less_multiples (λ i. cell u i s) x ks) ≡ None → settle w (multiplier u r ks s) ≡ None
  unfolding multiplier
  multiplier_stops e =
      settle-bind_none w (less_multiples (λ i. cell u i s) (cell u r s) ks) (λ rest. quotient rest (diagonal u s)) (begun ∙ e)

  divided : (k : ℕ) (rest d : ℚ) → k ≡ w → d ≡ diagonal u s → settle w (less_multiples (λ i. cell u i s) x ks) ≡ Some rest
      → settle w (multiplier u r ks s) ≡ settle k (work (rest /ℚ d))
  unfolding multiplier quotient
  divided k rest d e f h =
      settle-bind w (less_multiples (λ i. cell u i s) (cell u r s) ks) (λ left. work (left /ℚ diagonal u s)) rest (begun ∙ h)
      ∙ ap (λ b. settle w (work (rest /ℚ b))) (sym f) ∙ ap (λ j. settle j (work (rest /ℚ d))) (sym e)

  pub multiplier_settles : (k : ℕ) (rest d : ℚ) (res : Result ℚ Unfit) → k ≡ w → d ≡ diagonal u s → settle w (less_multiples (λ i. cell u i s) x ks) ≡ Some rest
      → Exact k (rest /ℚ d) res → Settles w (multiplier u r ks s) res
  multiplier_settles k rest d (Ok a) e f h exact = divided k rest d e f h ∙ settles-exact k (rest /ℚ d) (Ok a) exact
  multiplier_settles k rest d (Err b) e f h exact = divided k rest d e f h ∙ settles-exact k (rest /ℚ d) (Err b) exact

  -- what is 0 stays 0 by the diagonal
  pub multiplier_none : (rest : ℚ) → 1 ≤ w → rest ≡ zero_ℚ → settle w (less_multiples (λ i. cell u i s) x ks) ≡ Some rest → settle w (multiplier u r ks s) ≡ Some rest
  multiplier_none rest wide none h = divided w rest (diagonal u s) refl refl h ∙ quotient-none w wide rest (diagonal u s) none

-- ---- the positions behind

from-behind : (p : ℕ) (order : List ℕ) → In p order → from p order ≡ p ∷ behind p order
from-behind p [] held = absurd held
from-behind p (q ∷ order) held =
    ⊎_elim
    (λ (e : q ≡ p). cond-true (eqb q p) _ _ (eq-eqb q p e) ∙ ap₂ (λ a ps. a ∷ ps) e (sym (cond-true (eqb q p) order (behind p order) (eq-eqb q p e))))
    (λ (ne : q ≢ p).
    let later : In p order = ⊎_elim (λ (e : p ≡ q). absurd (ne (sym e))) (λ (h : In p order). h) held in
    cond-false (eqb q p) _ _ (ne_eqb q p ne) ∙ from-behind p order later ∙ ap (λ ps. p ∷ ps) (sym (cond-false (eqb q p) order (behind p order) (ne_eqb q p ne))))
    (cases_eq q p)

tail : List ℕ → List ℕ
tail [] = []
tail (x ∷ xs) = xs

-- what is followed from the position behind p on
pub rest-behind : (n : ℕ) (u : Triangle) → IsUpper n u → (p : ℕ) → p < n → (o : Option ℕ) → o ≡ after p u.order → rest o u.order ≡ behind p u.order
unfolding tail
rest-behind n u upper p lt o e = ap tail (sym (walk_on n u upper p lt o e) ∙ from-behind p u.order (in_order n u upper p lt))

-- the position behind each leaves fewer, so there are fewer behind than positions
behind-shorter : (p : ℕ) (order : List ℕ) → In p order → length (behind p order) < length order
behind-shorter p [] held = absurd held
behind-shorter p (q ∷ order) held =
    ⊎_elim
    (λ (e : q ≡ p). subst (λ (ps : List ℕ). length ps < length (q ∷ order)) (sym (cond-true (eqb q p) order (behind p order) (eq-eqb q p e))) (omega arith))
    (λ (ne : q ≢ p).
    let later : In p order = ⊎_elim (λ (e : p ≡ q). absurd (ne (sym e))) (λ (h : In p order). h) held in
    subst (λ (ps : List ℕ). length ps < length (q ∷ order)) (sym (cond-false (eqb q p) order (behind p order) (ne_eqb q p ne))) (omega (arith, behind-shorter p order later)))
    (cases_eq q p)

pub fewer-behind : (n : ℕ) (u : Triangle) → IsUpper n u → (p : ℕ) → p < n → length (behind p u.order) < n
fewer-behind n u upper p lt = omega (arith, behind-shorter p u.order (in_order n u upper p lt), order_length n u upper)

-- ---- the next position

module _ (u : Triangle) (r : ℕ) (ks : List (ℕ × ℚ)) (o : Option ℕ) (s : ℕ) (xs : List ℕ) (next : Option ℕ) (is : o ≡ Some s) (left : rest (Some s) xs ≡ s ∷ rest next xs) where
  pub next_parts : multipliers u r ks (rest o xs) ≡ bind (multiplier u r ks s) (λ k. multipliers u r (ks ++ stored_pair (row_of u s) k) (rest next xs))
  next_parts = ap (λ q. multipliers u r ks (rest q xs)) is ∙ ap (multipliers u r ks) left

  pub next_shorter : length (rest o xs) ≡ 1 + length (rest next xs)
  next_shorter = omega (arith, ap (λ q. length (rest q xs)) is, ap length left)

pub stored-short : (i : ℕ) (k : ℚ) (ks : List (ℕ × ℚ)) → length (ks ++ stored_pair i k) ≤ length ks + 1
stored-short i k ks =
    ⊎_elim
    (λ none. subst (λ ps. length (ks ++ ps) ≤ length ks + 1) (sym none.1) (omega (arith, length-append ks [])))
    (λ some. subst (λ ps. length (ks ++ ps) ≤ length ks + 1) (sym some.1) (omega (arith, length-append ks ((i, k) ∷ []))))
    (stored_cases i k)

-- ---- work, by so many each

pub one_more : (b x y : ℕ) → x ≡ 1 + y → b * x ≡ b + b * y
one_more b x y e = ap (λ z. b * z) e ∙ mul_suc b y
  where
    mul_suc : (b y : ℕ) → b * (1 + y) ≡ b + b * y
    mul_suc b y = omega arith

pub all_but_one : (b x : ℕ) → x < b → b * x + b ≤ b * b
all_but_one b x lt = mono b x lt
  where
    mono : (b x : ℕ) → x < b → b * x + b ≤ b * b
    mono b x lt = grind arith
