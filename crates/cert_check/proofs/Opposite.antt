-- A number and its opposite take as much width, so a sum may be worked as a difference with the opposite factor.
use Rattle.std.proofs.Common.{◌≡◌, ◌≢◌, ℕ, Bool, true, false, Option, Some, None, inl, inr, ◌⊎◌, refl, sym, ◌∙◌, ap, subst}
use Rattle.rational.specs.Rational.{ℚ, zero_ℚ, ◌+ℚ◌, ◌-ℚ◌, ◌*ℚ◌, neg_ℚ, eq_ℚ}
use Rattle.rational.specs.Width.{FitsWidth, fits_width}
use Rattle.rational.specs.Worked.{Worked, bind, less, more, settle, work}
use Rattle.rational.proofs.Opposites.{fits-opposite}
use Rattle.rational.proofs.OrderLaws.{eq_ℚ-decides}
use Rattle.rational.proofs.RationalRing.{ring_ℚ}
use Rattle.rational.proofs.Ring.{◌≐◌, ◌⊙◌≗◌⟹◌, ◌⊕◌, ◌⊖◌, ◌⊗◌, ⊝◌, 𝟘, 𝟙}
use Rattle.rational.proofs.Settling.{less-none, less-some, more-none, more-some, settle-bind, settle-bind_none, settle-work, settle-work_none}
use Rattle.rational.proofs.WidthLaws.{fits_from_test, fits_width-decides}

-- ── parts of what settles ──

module _ {A B : Type 0} (w : ℕ) (c : Worked A) (f : A → Worked B) (b : B) where
  -- where the whole settles, so do both parts
  pub settle-parts : settle w (bind c f) ≡ Some b → (a : A) × (settle w c ≡ Some a) × (settle w (f a) ≡ Some b)
  settle-parts h = by_first (settle w c) refl
    where
      by_first : (o : Option A) → settle w c ≡ o → (a : A) × (settle w c ≡ Some a) × (settle w (f a) ≡ Some b)
      by_first None e = let none = settle-bind_none w c f e in absurd (cc (none, h))
      by_first (Some a) e = (a, e, sym (settle-bind w c f a e) ∙ h)

pub work-fits : (w : ℕ) (a v : ℚ) → settle w (work a) ≡ Some v → FitsWidth w a × (a ≡ v)
work-fits w a v h = by_test (fits_width w a) refl
  where
    by_test : (t : Bool) → fits_width w a ≡ t → FitsWidth w a × (a ≡ v)
    by_test true e =
        let fits = fits_from_test w a e in
        let is : Some a ≡ Some v = sym (settle-work w a fits) ∙ h in
        (fits, cc)
    by_test false e = absurd (let none = settle-work_none w a (λ fits. let tested = (fits_width-decides w a).1 fits in cc) in cc)

-- ── opposites ──

-- a difference with the opposite factor that settles is the sum
pub less-opposite : (w : ℕ) (r e x s : ℚ) → settle w (less r e (neg_ℚ x)) ≡ Some s → settle w (more r e x) ≡ Some s
less-opposite w r e x s h = by_tests (eq_ℚ e zero_ℚ) (eq_ℚ x zero_ℚ) refl refl
  where
    none : (e ≡ zero_ℚ) ⊎ (x ≡ zero_ℚ) → (e ≡ zero_ℚ) ⊎ (neg_ℚ x ≡ zero_ℚ) → settle w (more r e x) ≡ Some s
    none left right = ap (settle w) (more-none r e x left ∙ sym (less-none r e (neg_ℚ x) right)) ∙ h

    opposite-zero : x ≡ zero_ℚ → neg_ℚ x ≡ zero_ℚ
    opposite-zero zero = ring_ℚ 1 (λ x. (⊝ 𝟙) ⊙ x ≗ 𝟘 ⟹ ⊝ x ≐ 𝟘) tt x zero

    zero-opposite : neg_ℚ x ≡ zero_ℚ → x ≡ zero_ℚ
    zero-opposite zero = ring_ℚ 1 (λ x. (⊝ 𝟙) ⊙ (⊝ x) ≗ 𝟘 ⟹ x ≐ 𝟘) tt x zero

    apart : (v : ℚ) → eq_ℚ v zero_ℚ ≡ false → v ≢ zero_ℚ
    apart v f zero = let tested = (eq_ℚ-decides v zero_ℚ).1 zero in absurd (cc)

    worked : e ≢ zero_ℚ → x ≢ zero_ℚ → settle w (more r e x) ≡ Some s
    worked left right =
        let h' = sym (ap (settle w) (less-some r e (neg_ℚ x) left (λ zero. right (zero-opposite zero)))) ∙ h in
        let first = settle-parts w (work (e *ℚ neg_ℚ x)) (λ p. work (r -ℚ p)) s h' in
        let product = work-fits w (e *ℚ neg_ℚ x) first.0 first.1 in
        let fits = fits-opposite w (e *ℚ x) (subst (FitsWidth w) (ring_ℚ 2 (λ e x. e ⊗ (⊝ x) ≐ ⊝ (e ⊗ x)) tt e x) product.0) in
        ap (settle w) (more-some r e x left right)
        ∙ settle-bind w (work (e *ℚ x)) (λ p. work (r +ℚ p)) (e *ℚ x) (settle-work w (e *ℚ x) fits)
        ∙ ap (λ v. settle w (work v)) (ring_ℚ 3 (λ r e x. r ⊕ e ⊗ x ≐ r ⊖ e ⊗ (⊝ x)) tt r e x)
        ∙ ap (λ p. settle w (work (r -ℚ p))) product.1
        ∙ first.2

    by_tests : (t u : Bool) → eq_ℚ e zero_ℚ ≡ t → eq_ℚ x zero_ℚ ≡ u → settle w (more r e x) ≡ Some s
    by_tests true u f g = let zero = (eq_ℚ-decides e zero_ℚ).0 f in none (inl zero) (inl zero)
    by_tests false true f g = let zero = (eq_ℚ-decides x zero_ℚ).0 g in none (inr zero) (inr (opposite-zero zero))
    by_tests false false f g = worked (apart e f) (apart x g)
