-- The parts of a row combination, one after another.
use Rattle.std.proofs.Common.{◌≡◌, ◌↔◌, IsTrue, ℕ, ◌+◌, ◌-◌, ◌<◌, ◌≤◌, Bool, true, false, cond, List, ◌++◌, map, Option, Some, sym, ◌∙◌, ap}
use Rattle.std.specs.List.{range_with_len}
use Rattle.std.specs.declared.cmp.Ordering.TheVariants.{Less, Equal, Greater}
use Rattle.lp_model.specs.Deck.{Interval}
use Rattle.rational.specs.Rational.{ℚ, zero_ℚ, ◌+ℚ◌, ◌*ℚ◌, cmp_ℚ}
use Rattle.rational.specs.Worked.{Worked, bind, done, is_skipped, settle, work}
use Rattle.rational.proofs.OrderLaws.{eq_ℚ-tested}
use Rattle.rational.proofs.Settling.{settle-done}
use Rattle.cert_check.specs.Sums.{greatest_sum, parts_sum, plus, product}
use Rattle.cert_check.specs.Inner.Groups.{scaled, with_part}
use Rattle.cert_check.proofs.Adding.{next_index, no_index}

-- ── one product, and one sum ──

module _ (a b : ℚ) (r : Bool) (is : r ≡ is_skipped a b) where
  pub product-none : r ≡ true → product a b ≡ done zero_ℚ
  product-none e = ap (λ t. cond t (done zero_ℚ) (work (a *ℚ b))) (sym is ∙ e)

  pub product-worked : r ≡ false → work (a *ℚ b) ≡ product a b
  product-worked e = ap (λ t. cond t (done zero_ℚ) (work (a *ℚ b))) (sym e ∙ is)

module _ (s p : ℚ) (r : Bool) (tested : IsTrue r ↔ (p ≡ zero_ℚ)) where
  pub plus-none : r ≡ true → plus s p ≡ done s
  plus-none e = ap (λ t. cond t (done s) (work (s +ℚ p))) (eq_ℚ-tested r p tested ∙ e)

  pub plus-worked : r ≡ false → work (s +ℚ p) ≡ plus s p
  plus-worked e = ap (λ t. cond t (done s) (work (s +ℚ p))) (sym (eq_ℚ-tested r p tested ∙ e))

-- at 0 the greatest value is 0
pub greatest-none : (w : ℕ) (c z : ℚ) (i : Interval) → z ≡ zero_ℚ → Equal ≡ cmp_ℚ c z → settle w (greatest_sum c i) ≡ Some (Some z)
greatest-none w c z i zero e =
    ap (λ o. settle w (elim o [ Less ↦ scaled c i.lower | Equal ↦ done (Some zero_ℚ) | Greater ↦ scaled c i.upper ])) (ap (cmp_ℚ c) (sym zero) ∙ sym e)
    ∙ settle-done w (Some zero_ℚ) ∙ ap (λ v. Some (Some v)) (sym zero)

-- ── one part after another ──

module _ (f : ℕ → Worked (Option ℚ)) (n : ℕ) (later : List (Worked (Option ℚ))) where
  abbrev pub left_parts : ℕ → List (Worked (Option ℚ))
  left_parts k = map f (range_with_len k (n - k)) ++ later

  pub parts-next : (k : ℕ) → k < n → (s : ℚ) → parts_sum s (left_parts k) ≡ bind (with_part s (f k)) (λ next. parts_sum next (left_parts (k + 1)))
  parts-next k lt s = ap (λ ks. parts_sum s (map f ks ++ later)) (next_index k n lt)

  pub parts-end : (k : ℕ) → n ≤ k → (s : ℚ) → parts_sum s (left_parts k) ≡ parts_sum s later
  parts-end k le s = ap (λ ks. parts_sum s (map f ks ++ later)) (no_index k n le)
