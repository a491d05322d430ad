-- The columns in which a line is not 0, and the numbers that are worked there one after another.
use Rattle.std.proofs.Common.{◌≡◌, ◌≢◌, ℕ, zero, suc, ◌+◌, ◌<◌, List, [], length, get_or, set, Bool, true, false, inr, refl, sym, ◌∙◌, ap, subst, arith}
use Rattle.std.proofs.lemmas.List.{get_or-set_other, get_or-set_same}
use Rattle.lp_model.specs.declared.Place.{Place}
use Rattle.rational.specs.Rational.{ℚ, zero_ℚ, eq_ℚ, ◌-ℚ◌, ◌*ℚ◌}
use Rattle.rational.specs.Sum.{at}
use Rattle.rational.specs.Worked.{less, placed}
use Rattle.rational.proofs.OrderLaws.{eq_ℚ-decides}
use Rattle.rational.proofs.RationalRing.{ring_ℚ}
use Rattle.rational.proofs.Ring.{◌≐◌, ◌⊙◌≗◌⟹◌, ◌⊖◌, ◌⊗◌, 𝟘}
use Rattle.lp_run.specs.Listing.{AllFit}
use Rattle.lp_run.proofs.FirstUnfit.{all-flat_map, fit-placed}
use Rattle.sparse_steps.proofs.Steps.{skipped}
use Rattle.plain_table.specs.Inner.Lines.{AreLessPacked, IsSupport, IsUnpacked, in_column, less_listing}
use Rattle.rational.proofs.SumLaws.{at_or_other}
use Rattle.std.proofs.Math.ListN.{length-set}
use Rattle.plain_table.specs.Inner.Rows.{AreWide}
use Rattle.plain_table.proofs.Halves.{by_place}

-- ── as the columns are found ──

-- the first columns of a list are those of the line below j
pub record IsFound (line : List ℚ) (columns : List ℕ) (count j : ℕ) : Type 0 where
  pub rising : (k l : ℕ) → k < l → l < count → get_or columns k 0 < get_or columns l 0
  pub apart : (k : ℕ) → k < count → at line (get_or columns k 0) ≢ zero_ℚ
  pub below : (k : ℕ) → k < count → get_or columns k 0 < j
  pub found : (i : ℕ) → i < j → at line i ≢ zero_ℚ → (k : ℕ) × (k < count) × (get_or columns k 0 ≡ i)

-- ── what is worked there ──

module _ (by : List ℚ) (columns : List ℕ) (support : IsSupport by columns) where
  -- what holds where the line is 0, and in the columns
  by_support : (P : ℕ → Type 0) (j : ℕ) → j < length by → (at by j ≡ zero_ℚ → P j) → ((k : ℕ) → k < length columns → get_or columns k 0 ≡ j → P j) → P j
  by_support P j b none some = by_test (eq_ℚ (at by j) zero_ℚ) refl
    where
      other : eq_ℚ (at by j) zero_ℚ ≡ false → at by j ≡ zero_ℚ → ⊥
      other e h = let same = (eq_ℚ-decides (at by j) zero_ℚ).1 h in cc

      by_test : (t : Bool) → eq_ℚ (at by j) zero_ℚ ≡ t → P j
      by_test true e = none ((eq_ℚ-decides (at by j) zero_ℚ).0 e)
      by_test false e = let f = support.found j b (other e) in some f.0 f.1 f.2

  -- a column below another stands before it
  before_it : (k l : ℕ) → k < length columns → l < length columns → get_or columns l 0 < get_or columns k 0 → l < k
  before_it k l b b' lt =
      by_place (λ l. l < length columns → get_or columns l 0 < get_or columns k 0 → l < k) k (λ l below inside lt. below) (λ d inside lt. absurd (not_past d inside lt)) l b' lt
    where
      not_past : (d : ℕ) → k + d < length columns → get_or columns (k + d) 0 < get_or columns k 0 → ⊥
      not_past zero inside lt = let same : get_or columns (k + 0) 0 ≡ get_or columns k 0 = ap (λ n. get_or columns n 0) (omega arith) in omega (arith, lt, same)
      not_past (suc d) inside lt = omega (arith, lt, support.rising k (k + suc d) (omega arith) inside)

  module _ (here : Place) (line : List ℚ) (factor : ℚ) (same : length by ≡ length line) (w : ℕ) where
    none_fits : (j : ℕ) → at by j ≡ zero_ℚ → AllFit w (placed (in_column here j) (less (at line j) factor (at by j)))
    none_fits j none = fit-placed w (in_column here j) (less (at line j) factor (at by j)) (at line j) (skipped w (at line j) factor (at by j) (inr none))

    -- what is worked before the column in place k fits
    pub fits_before : (k : ℕ) → k < length columns
        → ((l : ℕ) → l < k → AllFit w (placed (in_column here (get_or columns l 0)) (less (at line (get_or columns l 0)) factor (at by (get_or columns l 0)))))
        → (i : ℕ) → i < get_or columns k 0 → AllFit w (placed (in_column here i) (less (at line i) factor (at by i)))
    fits_before k b fits i lt =
        by_support (λ i. AllFit w (placed (in_column here i) (less (at line i) factor (at by i)))) i (omega (arith, lt, support.within k b)) (none_fits i)
        (λ l inside is. subst (λ i. AllFit w (placed (in_column here i) (less (at line i) factor (at by i)))) is (fits l (before_it k l b inside (subst (λ a. a < get_or columns k 0) (sym is) lt))))

    pub fits_all : ((l : ℕ) → l < length columns → AllFit w (placed (in_column here (get_or columns l 0)) (less (at line (get_or columns l 0)) factor (at by (get_or columns l 0)))))
        → AllFit w (less_listing here line factor by)
    fits_all fits =
        all-flat_map w (λ j. placed (in_column here j) (less (at line j) factor (at by j))) (length line)
        (λ i lt. by_support (λ i. AllFit w (placed (in_column here i) (less (at line i) factor (at by i)))) i (subst (λ n. i < n) (sym same) lt) (none_fits i)
        (λ l inside is. subst (λ i. AllFit w (placed (in_column here i) (less (at line i) factor (at by i)))) is (fits l inside)))

  -- a line with the worked numbers in their columns is the whole difference
  pub unpacked_less : (line packed new : List ℚ) (factor : ℚ) → AreLessPacked line factor by columns packed → IsUnpacked columns packed line new
      → (j : ℕ) → j < length by → at new j ≡ at line j -ℚ factor *ℚ at by j
  unpacked_less line packed new factor worked unpacked j b =
      by_support (λ j. at new j ≡ at line j -ℚ factor *ℚ at by j) j b
      (λ none. unpacked.others j (λ k inside is. support.apart k inside (ap (at by) is ∙ none)) ∙ ring_ℚ 3 (λ x a b. a ⊙ b ≗ 𝟘 ⟹ x ≐ x ⊖ a ⊗ b) tt (at line j) factor (at by j) none)
      (λ k inside is. subst (λ j. at new j ≡ at line j -ℚ factor *ℚ at by j) is (unpacked.written k inside ∙ worked k inside))

-- ── numbers that are written into their columns ──

-- the first of them are written
pub record IsUnpackedTo (columns : List ℕ) (packed line new : List ℚ) (n : ℕ) : Type 0 where
  pub written : (k : ℕ) → k < n → at new (get_or columns k 0) ≡ at packed k
  pub others : (j : ℕ) → ((k : ℕ) → k < n → get_or columns k 0 ≢ j) → at new j ≡ at line j

-- another row of the same width
pub wide_set : (n : ℕ) (rows : List (List ℚ)) (i : ℕ) (row : List ℚ) → AreWide n rows → i < length rows → length row ≡ n → AreWide n (set rows i row)
wide_set n rows i row wide b long k below =
    at_or_other (λ k. k < length rows → length (get_or (set rows i row) k []) ≡ n) i k
    (λ c. ap (λ (xs : List ℚ). length xs) (get_or-set_same rows i row [] b) ∙ long)
    (λ other c. ap (λ (xs : List ℚ). length xs) (get_or-set_other rows i k row [] other) ∙ wide k c) (omega (arith, below, length-set rows i row))
