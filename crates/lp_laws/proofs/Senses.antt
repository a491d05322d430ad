-- Sums and products as a sense counts them.
use Rattle.std.proofs.Common.{◌≡◌, ℕ, refl, sym, ◌∙◌}
use Rattle.lp_model.specs.declared.Sense.{Sense}
use Rattle.lp_model.specs.declared.Sense.TheVariants.{Max, Min}
use Rattle.rational.specs.Rational.{ℚ, one_ℚ, ◌+ℚ◌, ◌*ℚ◌, neg_ℚ}
use Rattle.rational.proofs.RationalRing.{ring_ℚ}
use Rattle.rational.proofs.Ring.{◌≐◌, ◌⊕◌, ◌⊗◌, ⊝◌, 𝟙}
use Rattle.rational.specs.Sum.{sum_ℚ}
use Rattle.rational.proofs.SumLaws.{sum-cong, sum-scale}
use Rattle.lp_model.specs.Deck.{in_sense}

pub in_sense-+ : (s : Sense) (a b : ℚ) → in_sense s (a +ℚ b) ≡ in_sense s a +ℚ in_sense s b
in_sense-+ Min a b = refl
in_sense-+ Max a b = ring_ℚ 2 (λ a b. ⊝ (a ⊕ b) ≐ ⊝ a ⊕ ⊝ b) tt a b

pub in_sense-* : (s : Sense) (a b : ℚ) → in_sense s (a *ℚ b) ≡ in_sense s a *ℚ b
in_sense-* Min a b = refl
in_sense-* Max a b = ring_ℚ 2 (λ a b. ⊝ (a ⊗ b) ≐ (⊝ a) ⊗ b) tt a b

pub in_sense-sum : (s : Sense) (n : ℕ) (f : ℕ → ℚ) → in_sense s (sum_ℚ n f) ≡ sum_ℚ n (λ i. in_sense s (f i))
in_sense-sum Min n f = refl
in_sense-sum Max n f =
    ring_ℚ 1 (λ a. ⊝ a ≐ (⊝ 𝟙) ⊗ a) tt (sum_ℚ n f) ∙ sym (sum-scale n (neg_ℚ one_ℚ) f)
    ∙ sum-cong n (λ i. neg_ℚ one_ℚ *ℚ f i) (λ i. neg_ℚ (f i)) (λ i b. ring_ℚ 1 (λ a. (⊝ 𝟙) ⊗ a ≐ ⊝ a) tt (f i))

-- a sum of products counts as that of the first factors, as the sense counts them
pub in_sense-products : (s : Sense) (n : ℕ) (f g : ℕ → ℚ) → in_sense s (sum_ℚ n (λ i. f i *ℚ g i)) ≡ sum_ℚ n (λ i. in_sense s (f i) *ℚ g i)
in_sense-products s n f g =
    in_sense-sum s n (λ i. f i *ℚ g i) ∙ sum-cong n (λ i. in_sense s (f i *ℚ g i)) (λ i. in_sense s (f i) *ℚ g i) (λ i b. in_sense-* s (f i) (g i))
