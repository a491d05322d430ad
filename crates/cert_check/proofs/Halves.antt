-- Items in two halves: the first that stops the walk is that of the first half, or else that of the second.
use Rattle.std.proofs.Common.{◌≡◌, ℕ, zero, suc, ◌+◌, ◌-◌, ◌≤◌, List, ◌∷◌, ◌++◌, map, Option, None, Some, Result, Ok, Err, sym, ◌∙◌, ap, ap₂, subst, arith}
use Rattle.std.specs.List.{range_with_len}
use Rattle.cert_check.specs.declared.verdict.Stop.{Stop}
use Rattle.cert_check.specs.Inner.Groups.{FirstIs}
use Rattle.cert_check.specs.Walk.{Item, first_stop}
use Rattle.cert_check.proofs.Walking.{stops, walk-then}

both_from : (item : ℕ → Item) (a m n : ℕ) → map item (range_with_len a (m + n)) ≡ map item (range_with_len a m) ++ map item (range_with_len (a + m) n)
both_from item a zero n = ap₂ (λ b k. map item (range_with_len b k)) (omega arith) (omega arith)
both_from item a (suc m) n =
    ap (λ k. map item (range_with_len a k)) (more m n)
    ∙ ap (λ xs. item a ∷ xs) (both_from item (a + 1) m n ∙ ap (λ b. map item (range_with_len (a + 1) m) ++ map item (range_with_len b n)) (next a m))
  where
    more : (m n : ℕ) → suc m + n ≡ suc (m + n)
    more m n = omega arith

    next : (a m : ℕ) → a + 1 + m ≡ a + suc m
    next a m = omega arith

module _ (item : ℕ → Item) (from half to : ℕ) (ordered : from ≤ half) (within : half ≤ to) where
  abbrev all : List Item
  all = map item (range_with_len from (to - from))

  abbrev low : List Item
  low = map item (range_with_len from (half - from))

  abbrev high : List Item
  high = map item (range_with_len half (to - half))

  halves : low ++ high ≡ all
  halves =
      let count : to - from ≡ (half - from) + (to - half) = omega arith in
      let up : from + (half - from) ≡ half = omega arith in
      sym (ap (λ n. map item (range_with_len from n)) count
      ∙ both_from item from (half - from) (to - half)
      ∙ ap (λ b. low ++ map item (range_with_len b (to - half))) up)

  -- the first half is stopped
  pub first_half : (w : ℕ) (r : Result (Unit {0}) Stop) (s : Stop) → r ≡ Err s → FirstIs (first_stop w low) r → first_stop w all ≡ Some s
  first_half w r s is h = ap (first_stop w) (sym halves) ∙ stops w low high s (subst (FirstIs (first_stop w low)) is h)

  -- the first half is walked, and the second one decides
  pub second_half : (w u : ℕ) (first r : Result (Unit {0}) Stop) → u ≡ w → first ≡ Ok tt → FirstIs (first_stop w low) first → FirstIs (first_stop u high) r
      → FirstIs (first_stop w all) r
  second_half w u first r same is h later =
      subst (λ xs. FirstIs (first_stop w xs) r) halves (walk-then w u low high same (subst (FirstIs (first_stop w low)) is h) r later)
