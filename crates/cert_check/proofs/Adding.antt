-- Sums of products, one product after another: over indices, and over the pairs of a column.
use Rattle.std.proofs.Common.{◌≡◌, ◌↔◌, IsTrue, ℕ, zero, suc, ◌+◌, ◌-◌, ◌<◌, ◌≤◌, Bool, true, false, ◌&&◌, ◌||◌, cond, eqb, List, [], ◌∷◌, length, map, drop, slice_get, Some, refl, sym, ◌∙◌, ap, ap₂, arith}
use Rattle.std.specs.List.{list_all, range_with_len}
use Rattle.std.specs.Option.{unwrap_or}
use Rattle.std.proofs.lemmas.List.{at_drop_all, at_drop_more}
use Rattle.std.proofs.lemmas.Option.{get_or_from_slice_get}
use Rattle.rational.specs.Rational.{ℚ, zero_ℚ, eq_ℚ}
use Rattle.rational.specs.Sparse.{IsSparse, entry_at, upto}
use Rattle.rational.specs.Sum.{at}
use Rattle.rational.specs.Worked.{Worked, bind, done, is_skipped, more, work}
use Rattle.rational.proofs.OrderLaws.{eq_ℚ-tested}
use Rattle.sparse_cols.specs.Sparse.{IsRising, value_at}
use Rattle.cert_check.specs.Sums.{added, entry_terms, from_start}

-- ── factors ──

pub skipped-left : (r : Bool) (a b : ℚ) → IsTrue r ↔ (a ≡ zero_ℚ) → r ≡ true → r ≡ is_skipped a b
unfolding is_skipped
skipped-left r a b tested e = e ∙ ap (λ t. t || eq_ℚ b zero_ℚ) (sym (eq_ℚ-tested r a tested ∙ e))

pub skipped-right : (r s : Bool) (a b : ℚ) → IsTrue r ↔ (a ≡ zero_ℚ) → r ≡ false → IsTrue s ↔ (b ≡ zero_ℚ) → s ≡ is_skipped a b
unfolding is_skipped
skipped-right r s a b left e right = sym (ap₂ (λ t u. t || u) (eq_ℚ-tested r a left ∙ e) (eq_ℚ-tested s b right))

-- ── over indices ──

pub next_index : (k n : ℕ) → k < n → range_with_len k (n - k) ≡ k ∷ range_with_len (k + 1) (n - (k + 1))
next_index k n lt = let e : n - k ≡ suc (n - (k + 1)) = omega arith in ap (range_with_len k) e

pub no_index : (k n : ℕ) → n ≤ k → range_with_len k (n - k) ≡ []
no_index k n le = let e : n - k ≡ zero = omega arith in ap (range_with_len k) e

pub all_indices : (n : ℕ) → range_with_len 0 (n - 0) ≡ upto n
all_indices n = let e : n - 0 ≡ n = omega arith in ap (range_with_len 0) e

module _ (f : ℕ → ℚ × ℚ) (n : ℕ) where
  abbrev pub left_terms : ℕ → List (ℚ × ℚ)
  left_terms k = map f (range_with_len k (n - k))

  pub all_terms : left_terms 0 ≡ map f (upto n)
  all_terms = ap (map f) (all_indices n)

  module _ (k : ℕ) (lt : k < n) where
    pub added-next : (s a b : ℚ) → a ≡ (f k).0 → b ≡ (f k).1 → added s (left_terms k) ≡ bind (more s a b) (λ next. added next (left_terms (k + 1)))
    added-next s a b left right =
        ap (λ ks. added s (map f ks)) (next_index k n lt) ∙ ap₂ (λ a b. bind (more s a b) (λ next. added next (left_terms (k + 1)))) (sym left) (sym right)

    -- whether all are skipped is left to the next ones, where this one is
    pub skipped-next : (p : ℚ × ℚ → Bool) (r : Bool) → r ≡ p (f k) → list_all p (left_terms k) ≡ (r && list_all p (left_terms (k + 1)))
    skipped-next p r is = ap (λ ks. list_all p (map f ks)) (next_index k n lt) ∙ ap (λ t. t && list_all p (left_terms (k + 1))) (sym is)

  pub added-ends : (k : ℕ) (s : ℚ) → n ≤ k → added s (left_terms k) ≡ done s
  added-ends k s le = ap (λ ks. added s (map f ks)) (no_index k n le)

  pub skipped-ends : (k : ℕ) (p : ℚ × ℚ → Bool) → n ≤ k → list_all p (left_terms k) ≡ true
  skipped-ends k p le = ap (λ ks. list_all p (map f ks)) (no_index k n le)

-- ── over the pairs of a column ──

module _ (y : List ℚ) (pairs : List (ℕ × ℚ)) (k : ℕ) where
  module _ (p : ℕ × ℚ) (lt : k < length pairs) (found : slice_get pairs k ≡ Some p) where
    next_pair : {B : Type 0} (walk : List (ℕ × ℚ) → B) → walk (drop k pairs) ≡ walk (p ∷ drop (k + 1) pairs)
    next_pair walk = at_drop_more walk pairs k p lt ∙ ap (λ q. walk (q ∷ drop (k + 1) pairs)) (get_or_from_slice_get pairs k p p found)

    pub weighted-next : (s b : ℚ) → b ≡ at y p.0 → added s (entry_terms y (drop k pairs)) ≡ bind (more s p.1 b) (λ next. added next (entry_terms y (drop (k + 1) pairs)))
    weighted-next s b item = next_pair (λ ps. added s (entry_terms y ps)) ∙ ap (λ b. bind (more s p.1 b) (λ next. added next (entry_terms y (drop (k + 1) pairs)))) (sym item)

    pub unpriced-next : (t : ℚ × ℚ → Bool) (r : Bool) → r ≡ t (p.1, at y p.0) → list_all t (entry_terms y (drop k pairs)) ≡ (r && list_all t (entry_terms y (drop (k + 1) pairs)))
    unpriced-next t r is = next_pair (λ ps. list_all t (entry_terms y ps)) ∙ ap (λ u. u && list_all t (entry_terms y (drop (k + 1) pairs))) (sym is)

  pub weighted-ends : (s : ℚ) → length pairs ≤ k → added s (entry_terms y (drop k pairs)) ≡ done s
  weighted-ends s le = at_drop_all (λ ps. added s (entry_terms y ps)) pairs k le

  pub unpriced-ends : (t : ℚ × ℚ → Bool) → length pairs ≤ k → list_all t (entry_terms y (drop k pairs)) ≡ true
  unpriced-ends t le = at_drop_all (λ ps. list_all t (entry_terms y ps)) pairs k le

-- ── what a test of all items is ──

pub all_so_far : (r rest whole left : Bool) → r ≡ true → left ≡ (r && rest) → left ≡ whole → rest ≡ whole
all_so_far r rest whole left skipped parts before = ap (λ t. t && rest) (sym skipped) ∙ sym parts ∙ before

pub one_fails : (r rest whole left : Bool) → r ≡ false → left ≡ (r && rest) → left ≡ whole → false ≡ whole
one_fails r rest whole left worked parts before = ap (λ t. t && rest) (sym worked) ∙ sym parts ∙ before

-- ── a sum from a number on ──

module _ (start : ℚ) (terms : List (ℚ × ℚ)) (sum : Worked ℚ) (b : Bool) (is : b ≡ list_all (λ term. is_skipped term.0 term.1) terms) where
  pub starts-alone : b ≡ true → work start ≡ from_start start terms sum
  starts-alone e = ap (λ t. cond t (work start) sum) (sym e ∙ is)

  pub starts-sum : b ≡ false → sum ≡ from_start start terms sum
  starts-sum e = ap (λ t. cond t (work start) sum) (sym e ∙ is)

-- a column without entries that are 0 rises
pub rises : (m from : ℕ) (pairs : List (ℕ × ℚ)) → IsSparse m from pairs → IsRising m from pairs
rises m from [] sparse = tt
rises m from (p ∷ pairs) sparse = (sparse.0, sparse.1, rises m (p.0 + 1) pairs sparse.3)
