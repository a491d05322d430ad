-- Laws of the integers that std lacks: the product is distributive and associative, keeps sizes, and cancels.
use Rattle.std.proofs.Common.{◌≡◌, ℕ, zero, suc, ◌*◌, ◌<◌, ℤ, pos, negsuc, ◌+ℤ◌, ◌-ℤ◌, ◌*ℤ◌, neg_ℤ, nat_abs, refl, sym, ◌∙◌, ap, ap₂, arith}
use Rattle.std.proofs.lemmas.Int.{ints}
use Rattle.std.proofs.Math.IntN.{suc_ℤ, pred_ℤ, suc_ℤ-*ℤ, pred_ℤ-*ℤ, zero-*ℤ, *ℤ_comm}
use Rattle.std.proofs.Math.Nat.{eq_of_mul-eq-mul_right, mul-pos, suc_inj}
pub use Rattle.rational.specs.Inner.Lowest.{nat_abs-neg_ℤ}

-- two sums of two terms
regroup : (p q b c : ℤ) → (p +ℤ q) +ℤ (b +ℤ c) ≡ (p +ℤ b) +ℤ (q +ℤ c)
regroup p q b c = omega (arith, ints)

regroup-minus : (p q b c : ℤ) → (p +ℤ q) -ℤ (b +ℤ c) ≡ (p -ℤ b) +ℤ (q -ℤ c)
regroup-minus p q b c = omega (arith, ints)

spread-suc : (a b c : ℤ) → a *ℤ (b +ℤ c) ≡ a *ℤ b +ℤ a *ℤ c → suc_ℤ a *ℤ (b +ℤ c) ≡ suc_ℤ a *ℤ b +ℤ suc_ℤ a *ℤ c
spread-suc a b c e =
    suc_ℤ-*ℤ a (b +ℤ c) ∙ ap (λ z. z +ℤ (b +ℤ c)) e ∙ regroup (a *ℤ b) (a *ℤ c) b c
    ∙ ap₂ ◌+ℤ◌ (sym (suc_ℤ-*ℤ a b)) (sym (suc_ℤ-*ℤ a c))

spread-pred : (a b c : ℤ) → a *ℤ (b +ℤ c) ≡ a *ℤ b +ℤ a *ℤ c → pred_ℤ a *ℤ (b +ℤ c) ≡ pred_ℤ a *ℤ b +ℤ pred_ℤ a *ℤ c
spread-pred a b c e =
    pred_ℤ-*ℤ a (b +ℤ c) ∙ ap (λ z. z -ℤ (b +ℤ c)) e ∙ regroup-minus (a *ℤ b) (a *ℤ c) b c
    ∙ ap₂ ◌+ℤ◌ (sym (pred_ℤ-*ℤ a b)) (sym (pred_ℤ-*ℤ a c))

spread-zero : (b c : ℤ) → pos 0 *ℤ (b +ℤ c) ≡ pos 0 *ℤ b +ℤ pos 0 *ℤ c
spread-zero b c = zero-*ℤ (b +ℤ c) ∙ sym (ap₂ ◌+ℤ◌ (zero-*ℤ b) (zero-*ℤ c))

pub *ℤ-+ℤ : (a b c : ℤ) → a *ℤ (b +ℤ c) ≡ a *ℤ b +ℤ a *ℤ c
*ℤ-+ℤ (pos zero) b c = spread-zero b c
*ℤ-+ℤ (pos (suc n)) b c = spread-suc (pos n) b c (*ℤ-+ℤ (pos n) b c)
*ℤ-+ℤ (negsuc zero) b c = spread-pred (pos 0) b c (spread-zero b c)
*ℤ-+ℤ (negsuc (suc n)) b c = spread-pred (negsuc n) b c (*ℤ-+ℤ (negsuc n) b c)

pub +ℤ-*ℤ : (a b c : ℤ) → (a +ℤ b) *ℤ c ≡ a *ℤ c +ℤ b *ℤ c
+ℤ-*ℤ a b c = *ℤ_comm (a +ℤ b) c ∙ *ℤ-+ℤ c a b ∙ ap₂ ◌+ℤ◌ (*ℤ_comm c a) (*ℤ_comm c b)

-- a negated factor
pub neg_ℤ-*ℤ : (a c : ℤ) → neg_ℤ a *ℤ c ≡ neg_ℤ (a *ℤ c)
neg_ℤ-*ℤ a c =
    let together : neg_ℤ a *ℤ c +ℤ a *ℤ c ≡ pos 0 = sym (+ℤ-*ℤ (neg_ℤ a) a c) ∙ ap (λ z. z *ℤ c) (opposite a) ∙ zero-*ℤ c in
    opposite_is (neg_ℤ a *ℤ c) (a *ℤ c) together
  where
    opposite : (x : ℤ) → neg_ℤ x +ℤ x ≡ pos 0
    opposite x = omega (arith, ints)

    opposite_is : (x y : ℤ) → x +ℤ y ≡ pos 0 → x ≡ neg_ℤ y
    opposite_is x y e = omega (arith, ints)

pub -ℤ-*ℤ : (a b c : ℤ) → (a -ℤ b) *ℤ c ≡ a *ℤ c -ℤ b *ℤ c
-ℤ-*ℤ a b c = +ℤ-*ℤ a (neg_ℤ b) c ∙ ap (λ z. a *ℤ c +ℤ z) (neg_ℤ-*ℤ b c)

join-suc : (a b c : ℤ) → (a *ℤ b) *ℤ c ≡ a *ℤ (b *ℤ c) → (suc_ℤ a *ℤ b) *ℤ c ≡ suc_ℤ a *ℤ (b *ℤ c)
join-suc a b c e =
    ap (λ z. z *ℤ c) (suc_ℤ-*ℤ a b) ∙ +ℤ-*ℤ (a *ℤ b) b c ∙ ap (λ z. z +ℤ b *ℤ c) e ∙ sym (suc_ℤ-*ℤ a (b *ℤ c))

join-pred : (a b c : ℤ) → (a *ℤ b) *ℤ c ≡ a *ℤ (b *ℤ c) → (pred_ℤ a *ℤ b) *ℤ c ≡ pred_ℤ a *ℤ (b *ℤ c)
join-pred a b c e =
    ap (λ z. z *ℤ c) (pred_ℤ-*ℤ a b) ∙ -ℤ-*ℤ (a *ℤ b) b c ∙ ap (λ z. z -ℤ b *ℤ c) e ∙ sym (pred_ℤ-*ℤ a (b *ℤ c))

join-zero : (b c : ℤ) → (pos 0 *ℤ b) *ℤ c ≡ pos 0 *ℤ (b *ℤ c)
join-zero b c = ap (λ z. z *ℤ c) (zero-*ℤ b) ∙ zero-*ℤ c ∙ sym (zero-*ℤ (b *ℤ c))

pub *ℤ_assoc : (a b c : ℤ) → (a *ℤ b) *ℤ c ≡ a *ℤ (b *ℤ c)
*ℤ_assoc (pos zero) b c = join-zero b c
*ℤ_assoc (pos (suc n)) b c = join-suc (pos n) b c (*ℤ_assoc (pos n) b c)
*ℤ_assoc (negsuc zero) b c = join-pred (pos 0) b c (join-zero b c)
*ℤ_assoc (negsuc (suc n)) b c = join-pred (negsuc n) b c (*ℤ_assoc (negsuc n) b c)

-- the last two factors change places
pub *ℤ-swap : (a b c : ℤ) → (a *ℤ b) *ℤ c ≡ (a *ℤ c) *ℤ b
*ℤ-swap a b c = *ℤ_assoc a b c ∙ ap (λ z. a *ℤ z) (*ℤ_comm b c) ∙ sym (*ℤ_assoc a c b)

-- the size of a product
pub nat_abs-*ℤ : (a b : ℤ) → nat_abs (a *ℤ b) ≡ nat_abs a * nat_abs b
nat_abs-*ℤ (pos a) (pos b) = refl
nat_abs-*ℤ (pos a) (negsuc b) = nat_abs-neg_ℤ (pos (a * suc b))
nat_abs-*ℤ (negsuc a) (pos b) = nat_abs-neg_ℤ (pos (suc a * b))
nat_abs-*ℤ (negsuc a) (negsuc b) = refl

-- a positive factor cancels
pub *ℤ-cancel : (a b : ℤ) (g : ℕ) → 0 < g → a *ℤ pos g ≡ b *ℤ pos g → a ≡ b
*ℤ-cancel (pos a) (pos b) g some e = ap pos (eq_of_mul-eq-mul_right g some a b (ap nat_abs e))
*ℤ-cancel (pos a) (negsuc b) g some e = absurd (apart (a * g) (suc b * g) (mul-pos (omega arith) some) e)
  where
    apart : (m n : ℕ) → 0 < n → pos m ≡ neg_ℤ (pos n) → ⊥
    apart m n positive h = omega (arith, ints)
*ℤ-cancel (negsuc a) (pos b) g some e = absurd (apart (b * g) (suc a * g) (mul-pos (omega arith) some) (sym e))
  where
    apart : (m n : ℕ) → 0 < n → pos m ≡ neg_ℤ (pos n) → ⊥
    apart m n positive h = omega (arith, ints)
*ℤ-cancel (negsuc a) (negsuc b) g some e =
    let sizes : suc a * g ≡ suc b * g = sym (nat_abs-neg_ℤ (pos (suc a * g))) ∙ ap nat_abs e ∙ nat_abs-neg_ℤ (pos (suc b * g)) in
    ap negsuc (suc_inj (eq_of_mul-eq-mul_right g some (suc a) (suc b) sizes))
