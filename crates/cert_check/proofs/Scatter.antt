-- The activities of all rows, one column after another.
use Rattle.std.proofs.Common.{◌≡◌, ◌≢◌, ℕ, ◌+◌, ◌<◌, ◌≤◌, eqb, List, [], ◌∷◌, ◌++◌, length, map, set, Some, inl, ⊎_elim, refl, sym, ◌∙◌, ap, ap₂, subst, arith}
use Rattle.std.proofs.lemmas.Bool.{cases_eq, eq-eqb, ne_eqb, cond-true, cond-false}
use Rattle.std.proofs.lemmas.List.{get_or-set_other, get_or-set_same, length-set}
use Rattle.std.proofs.lemmas.List.FromFn.{map-range_with_len_more}
use Rattle.lp_model.specs.Deck.{Deck, column, entry}
use Rattle.rational.specs.Lines.{subtract}
use Rattle.rational.specs.Rational.{ℚ, zero_ℚ, neg_ℚ}
use Rattle.rational.specs.Sparse.{IsSparse, entry_at, upto}
use Rattle.rational.specs.Sum.{at}
use Rattle.rational.specs.Worked.{less_unless, more, settle}
use Rattle.rational.proofs.Settling.{less_unless-in, more-none, settle-bind, settle-done}
use Rattle.cert_check.specs.Sums.{added}
use Rattle.cert_check.proofs.Opposite.{less-opposite, settle-parts}

-- ── one product more ──

-- a sum that settles, and a product more
pub added-more : (w : ℕ) (s : ℚ) (terms : List (ℚ × ℚ)) (t : ℚ × ℚ) (a b : ℚ) → settle w (added s terms) ≡ Some a → settle w (more a t.0 t.1) ≡ Some b
    → settle w (added s (terms ++ t ∷ [])) ≡ Some b
added-more w s [] t a b first second =
    let is : Some s ≡ Some a = sym (settle-done w s) ∙ first in
    let same : s ≡ a = cc in
    settle-bind w (more s t.0 t.1) (λ next. added next []) b (ap (λ r. settle w (more r t.0 t.1)) same ∙ second) ∙ settle-done w b
added-more w s (u ∷ terms) t a b first second =
    let parts = settle-parts w (more s u.0 u.1) (λ next. added next terms) a first in
    settle-bind w (more s u.0 u.1) (λ next. added next (terms ++ t ∷ [])) parts.0 parts.1 ∙ added-more w parts.0 terms t a b parts.2 second

-- ── one column ──

pub entry-before : (m from : ℕ) (pairs : List (ℕ × ℚ)) (i : ℕ) → IsSparse m from pairs → i < from → entry_at pairs i ≡ zero_ℚ
entry-before m from [] i sparse lt = refl
entry-before m from (p ∷ pairs) i sparse lt =
    cond-false (eqb p.0 i) _ _ (ne_eqb p.0 i (λ e. omega (arith, sparse.0))) ∙ entry-before m (p.0 + 1) pairs i sparse.3 (omega (arith, sparse.0))

pub entry-own : (k : ℕ) (e : ℚ) (pairs : List (ℕ × ℚ)) → entry_at ((k, e) ∷ pairs) k ≡ e
entry-own k e pairs = cond-true (eqb k k) _ _ (eq-eqb k k refl)

pub entry-other : (k i : ℕ) (e : ℚ) (pairs : List (ℕ × ℚ)) → k ≢ i → entry_at ((k, e) ∷ pairs) i ≡ entry_at pairs i
entry-other k i e pairs other = cond-false (eqb k i) _ _ (ne_eqb k i other)

-- each item has the product of its entry more
pub record Scattered (w : ℕ) (x : ℚ) (pairs : List (ℕ × ℚ)) (s s' : List ℚ) : Type 0 where
  pub long : length s' ≡ length s
  pub each : (i : ℕ) → i < length s → settle w (more (at s i) (entry_at pairs i) x) ≡ Some (at s' i)

nothing-more : (w : ℕ) (r e x : ℚ) → e ≡ zero_ℚ → settle w (more r e x) ≡ Some r
nothing-more w r e x zero = ap (settle w) (more-none r e x (inl zero)) ∙ settle-done w r

pub scatters : (w skip from : ℕ) (x : ℚ) (pairs : List (ℕ × ℚ)) (s s' : List ℚ) → length s ≤ skip → IsSparse (length s) from pairs
    → settle w (subtract skip (neg_ℚ x) s pairs) ≡ Some s' → Scattered w x pairs s s'
scatters w skip from x [] s s' le sparse h =
    let is : Some s ≡ Some s' = sym (settle-done w s) ∙ h in
    let same : s ≡ s' = cc in
    record { long = ap length (sym same); each = λ i lt. nothing-more w (at s i) zero_ℚ x refl ∙ ap (λ v. Some (at v i)) same }
scatters w skip from x ((k, e) ∷ pairs) s s' le sparse h =
    let parts = settle-parts w (less_unless (eqb k skip) (at s k) e (neg_ℚ x)) (λ item. subtract skip (neg_ℚ x) (set s k item) pairs) s' h in
    let item = parts.0 in
    let long = length-set s k item in
    let rest = scatters w skip (k + 1) x pairs (set s k item) s' (omega (arith, long)) (subst (λ m. IsSparse m (k + 1) pairs) (sym long) sparse.3) parts.2 in
    let other_row : k ≢ skip = λ same. omega (arith, same, sparse.1) in
    let own = less-opposite w (at s k) e x item (ap (settle w) (sym (less_unless-in (eqb k skip) (at s k) e (neg_ℚ x) (ne_eqb k skip other_row))) ∙ parts.1) in
    let kept = nothing-more w (at (set s k item) k) (entry_at pairs k) x (entry-before (length s) (k + 1) pairs k sparse.3 (omega arith)) in
    record {
      long = rest.long ∙ long;
      each = λ i lt. ⊎_elim
          (λ (same : i ≡ k).
          subst (λ i. settle w (more (at s i) (entry_at ((k, e) ∷ pairs) i) x) ≡ Some (at s' i)) (sym same)
          (ap (λ v. settle w (more (at s k) v x)) (entry-own k e pairs) ∙ own
          ∙ ap Some (sym (get_or-set_same s k item zero_ℚ sparse.1)) ∙ sym kept ∙ rest.each k (omega (arith, long, sparse.1))))
          (λ (other : i ≢ k).
          ap₂ (λ r v. settle w (more r v x)) (sym (get_or-set_other s k i item zero_ℚ other)) (entry-other k i e pairs (λ same. other (sym same)))
          ∙ rest.each i (omega (arith, long)))
          (cases_eq i k);
    }

-- ── one column more ──

module _ (w : ℕ) (d : Deck) (v : List ℚ) where
  -- the activities over the first columns
  abbrev pub SumsUpTo : ℕ → List ℚ → Type 0
  SumsUpTo j sums = (i : ℕ) → i < length sums → settle w (added zero_ℚ (map (λ j. (entry d i j, at v j)) (upto j))) ≡ Some (at sums i)

  pub sums-more : (j : ℕ) (s s' : List ℚ) → SumsUpTo j s → Scattered w (at v j) (column d j).entries s s' → SumsUpTo (j + 1) s'
  sums-more j s s' before step = λ i lt.
      let within : i < length s = omega (arith, step.long) in
      ap (λ ts. settle w (added zero_ℚ ts)) (map-range_with_len_more (λ j. (entry d i j, at v j)) 0 j j (omega arith))
      ∙ added-more w zero_ℚ (map (λ j. (entry d i j, at v j)) (upto j)) (entry d i j, at v j) (at s i) (at s' i) (before i within) (step.each i within)
