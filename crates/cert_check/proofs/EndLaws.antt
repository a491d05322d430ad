-- Ends and sizes by the order of fractions.
use Rattle.std.proofs.Common.{◌≡◌, ℕ, [], ◌∷◌, Some, refl, sym, ◌∙◌, ap, subst}
use Rattle.std.specs.declared.cmp.Ordering.TheVariants.{Less, Equal, Greater}
use Rattle.lp_model.specs.declared.RowKind.TheVariants.{E}
use Rattle.lp_model.specs.Deck.{between}
use Rattle.rational.specs.Rational.{ℚ, zero_ℚ, ◌+ℚ◌, ◌-ℚ◌, neg_ℚ, abs_ℚ, cmp_ℚ, ◌<ℚ◌}
use Rattle.rational.specs.Worked.{settle}
use Rattle.rational.proofs.OrderLaws.{abs_ℚ-above, abs_ℚ-below, cmp_less, cmp_equal, cmp_greater}
use Rattle.cert_check.specs.Sums.{interval_of}
use Rattle.cert_check.proofs.Values.{no_value}

size-zero : abs_ℚ zero_ℚ ≡ zero_ℚ
unfolding abs_ℚ zero_ℚ
size-zero = refl

module _ (a z : ℚ) (zero : z ≡ zero_ℚ) where
  pub size-negative : Less ≡ cmp_ℚ a z → neg_ℚ a ≡ abs_ℚ a
  size-negative e = sym (abs_ℚ-below a (subst (λ z. a <ℚ z) zero (cmp_less a z (sym e))))

  pub size-none : Equal ≡ cmp_ℚ a z → a ≡ abs_ℚ a
  size-none e = let none : a ≡ zero_ℚ = cmp_equal a z (sym e) ∙ zero in none ∙ sym size-zero ∙ ap abs_ℚ (sym none)

  pub size-positive : Greater ≡ cmp_ℚ a z → a ≡ abs_ℚ a
  size-positive e = sym (abs_ℚ-above a (subst (λ z. z <ℚ a) zero (cmp_greater a z (sym e))))

-- the interval of an equality whose range is 0 has no worked end
pub interval-equal : (w : ℕ) (b r z : ℚ) → z ≡ zero_ℚ → Equal ≡ cmp_ℚ r z → settle w (interval_of E b (Some r)) ≡ Some (between b b)
interval-equal w b r z zero e =
    ap (λ o. settle w (record {
      values = elim o [ Less ↦ (b -ℚ abs_ℚ r) ∷ [] | Equal ↦ [] | Greater ↦ (b +ℚ r) ∷ [] ];
      answer = elim o [ Less ↦ between (b -ℚ abs_ℚ r) b | Equal ↦ between b b | Greater ↦ between b (b +ℚ r) ];
    })) (ap (cmp_ℚ r) (sym zero) ∙ sym e)
    ∙ no_value w (between b b)
