-- When a calculation settles, so that it has an answer at a width.
use Rattle.std.proofs.Common.{◌≡◌, ◌≢◌, ℕ, Bool, true, false, cond, ◌&&◌, ◌||◌, Option, Some, None, ◌⊎◌, inl, inr, refl, sym, ◌∙◌, ap, subst}
use Rattle.std.specs.List.{list_all}
use Rattle.std.proofs.lemmas.List.Folds.{list_all-append}
use Rattle.rational.specs.Rational.{ℚ, zero_ℚ, ◌+ℚ◌, ◌-ℚ◌, ◌*ℚ◌, eq_ℚ}
use Rattle.rational.specs.Width.{fits_width, FitsWidth}
use Rattle.rational.proofs.RationalRing.{ring_ℚ}
use Rattle.rational.proofs.Ring.{◌≐◌, ◌⊙◌≗◌⟹◌, ◌⊖◌, ◌⊕◌, ◌⊗◌, 𝟘, 𝟙}
use Rattle.rational.proofs.OrderLaws.{eq_ℚ-decides, eq_ℚ-other}
use Rattle.rational.proofs.WidthLaws.{fits_from_test, fits_width-decides}
use Rattle.rational.specs.Worked.{Worked, done, work, bind, settle, is_skipped, less, less_unless, more}

-- ---- one step

module _ {A : Type 0} (w : ℕ) where
  pub settle-done : (a : A) → settle w (done a) ≡ Some a
  unfolding settle done
  settle-done a = refl

  -- what settles has the answer of the calculation
  pub settle-answer : (c : Worked A) (a : A) → settle w c ≡ Some a → c.answer ≡ a
  unfolding settle
  settle-answer c a e = by_test (list_all (fits_width w) c.values) e
    where
      by_test : (t : Bool) → cond t (Some c.answer) None ≡ Some a → c.answer ≡ a
      by_test true h = cc
      by_test false h = absurd cc

  -- two calculations that are one, at widths that are one
  pub settle-same : (u : ℕ) (c d : Worked A) (o : Option A) → u ≡ w → c ≡ d → settle w d ≡ o → settle u c ≡ o
  settle-same u c d o e f h = cc

pub settle-work : (w : ℕ) (a : ℚ) → FitsWidth w a → settle w (work a) ≡ Some a
unfolding settle work
settle-work w a fits = ap (λ t. cond (t && true) (Some a) None) ((fits_width-decides w a).1 fits)

pub settle-work_none : (w : ℕ) (a : ℚ) → ¬ FitsWidth w a → settle w (work a) ≡ None
unfolding settle work
settle-work_none w a unfit = by_test (fits_width w a) refl
  where
    by_test : (t : Bool) → fits_width w a ≡ t → cond (t && true) (Some a) None ≡ None
    by_test true e = absurd (unfit (fits_from_test w a e))
    by_test false e = refl

-- ---- one after another

module _ {A B : Type 0} (w : ℕ) (c : Worked A) (f : A → Worked B) where
  bound : (s t : Bool) → list_all (fits_width w) c.values ≡ s → list_all (fits_width w) (f c.answer).values ≡ t
      → settle w (bind c f) ≡ cond s (cond t (Some (f c.answer).answer) None) None
  unfolding settle bind
  bound s t e h =
      ap (λ u. cond u (Some (f c.answer).answer) None) (list_all-append (fits_width w) c.values (f c.answer).values)
      ∙ by_tests s t e h
    where
      by_tests : (s t : Bool) → list_all (fits_width w) c.values ≡ s → list_all (fits_width w) (f c.answer).values ≡ t
          → cond (list_all (fits_width w) c.values && list_all (fits_width w) (f c.answer).values) (Some (f c.answer).answer) None ≡ cond s (cond t (Some (f c.answer).answer) None) None
      by_tests true t p q = ap (λ u. cond (u && list_all (fits_width w) (f c.answer).values) (Some (f c.answer).answer) None) p ∙ ap (λ u. cond u (Some (f c.answer).answer) None) q
      by_tests false t p q = ap (λ u. cond (u && list_all (fits_width w) (f c.answer).values) (Some (f c.answer).answer) None) p

  -- where the first part settles, the rest is left
  pub settle-bind : (a : A) → settle w c ≡ Some a → settle w (bind c f) ≡ settle w (f a)
  unfolding settle
  settle-bind a e = by_test (list_all (fits_width w) c.values) refl
    where
      apart : (t : Bool) → t ≡ false → cond t (Some c.answer) None ≡ Some a → ⊥
      apart true p q = cc
      apart false p q = cc

      by_test : (t : Bool) → list_all (fits_width w) c.values ≡ t → settle w (bind c f) ≡ settle w (f a)
      by_test true h = bound true (list_all (fits_width w) (f c.answer).values) h refl ∙ ap (λ b. settle w (f b)) (settle-answer w c a e)
      by_test false h = absurd (apart (list_all (fits_width w) c.values) h e)

  -- and where it does not, nothing does
  pub settle-bind_none : settle w c ≡ None → settle w (bind c f) ≡ None
  unfolding settle
  settle-bind_none e = by_test (list_all (fits_width w) c.values) refl
    where
      apart : (t : Bool) → t ≡ true → cond t (Some c.answer) None ≡ None → ⊥
      apart true p q = cc
      apart false p q = cc

      by_test : (t : Bool) → list_all (fits_width w) c.values ≡ t → settle w (bind c f) ≡ None
      by_test true h = absurd (apart (list_all (fits_width w) c.values) h e)
      by_test false h = bound false (list_all (fits_width w) (f c.answer).values) h refl

-- ---- x less a product

skipped_of : (a b : ℚ) → (a ≡ zero_ℚ) ⊎ (b ≡ zero_ℚ) → is_skipped a b ≡ true
unfolding is_skipped
skipped_of a b (inl e) = ap (λ t. t || eq_ℚ b zero_ℚ) (subst (λ z. eq_ℚ z zero_ℚ ≡ true) (sym e) ((eq_ℚ-decides zero_ℚ zero_ℚ).1 refl))
skipped_of a b (inr e) = second (eq_ℚ a zero_ℚ) (eq_ℚ b zero_ℚ) (subst (λ z. eq_ℚ z zero_ℚ ≡ true) (sym e) ((eq_ℚ-decides zero_ℚ zero_ℚ).1 refl))
  where
    second : (s t : Bool) → t ≡ true → (s || t) ≡ true
    second true t h = refl
    second false t h = h

-- a product of 0 is skipped
pub less-none : (x a b : ℚ) → (a ≡ zero_ℚ) ⊎ (b ≡ zero_ℚ) → less x a b ≡ done x
unfolding less
less-none x a b none = ap (λ t. cond t (done x) (bind (work (a *ℚ b)) (λ product. work (x -ℚ product)))) (skipped_of a b none)

-- another one is worked
pub less-some : (x a b : ℚ) → a ≢ zero_ℚ → b ≢ zero_ℚ → less x a b ≡ bind (work (a *ℚ b)) (λ product. work (x -ℚ product))
unfolding less is_skipped
less-some x a b left right =
    ap (λ t. cond (t || eq_ℚ b zero_ℚ) (done x) (bind (work (a *ℚ b)) (λ product. work (x -ℚ product)))) (eq_ℚ-other a left)
    ∙ ap (λ t. cond t (done x) (bind (work (a *ℚ b)) (λ product. work (x -ℚ product)))) (eq_ℚ-other b right)

-- the same of a sum
pub more-none : (x a b : ℚ) → (a ≡ zero_ℚ) ⊎ (b ≡ zero_ℚ) → more x a b ≡ done x
unfolding more
more-none x a b none = ap (λ t. cond t (done x) (bind (work (a *ℚ b)) (λ product. work (x +ℚ product)))) (skipped_of a b none)

pub more-some : (x a b : ℚ) → a ≢ zero_ℚ → b ≢ zero_ℚ → more x a b ≡ bind (work (a *ℚ b)) (λ product. work (x +ℚ product))
unfolding more is_skipped
more-some x a b left right =
    ap (λ t. cond (t || eq_ℚ b zero_ℚ) (done x) (bind (work (a *ℚ b)) (λ product. work (x +ℚ product)))) (eq_ℚ-other a left)
    ∙ ap (λ t. cond t (done x) (bind (work (a *ℚ b)) (λ product. work (x +ℚ product)))) (eq_ℚ-other b right)

pub less_unless-out : (out : Bool) (x a b : ℚ) → out ≡ true → less_unless out x a b ≡ done x
unfolding less_unless
less_unless-out out x a b e = ap (λ t. cond t (done x) (less x a b)) e

pub less_unless-in : (out : Bool) (x a b : ℚ) → out ≡ false → less_unless out x a b ≡ less x a b
unfolding less_unless
less_unless-in out x a b e = ap (λ t. cond t (done x) (less x a b)) e

-- ---- what a difference and a sum with a product come to, worked or skipped

no_product : (a b : ℚ) (s t : Bool) → eq_ℚ a zero_ℚ ≡ s → eq_ℚ b zero_ℚ ≡ t → (s || t) ≡ true → a *ℚ b ≡ zero_ℚ
no_product a b true t e f is = ap (λ x. x *ℚ b) ((eq_ℚ-decides a zero_ℚ).0 e) ∙ ring_ℚ 1 (λ b. 𝟘 ⊗ b ≐ 𝟘) tt b
no_product a b false t e f is = ap (λ x. a *ℚ x) ((eq_ℚ-decides b zero_ℚ).0 (f ∙ is)) ∙ ring_ℚ 1 (λ a. a ⊗ 𝟘 ≐ 𝟘) tt a

pub less_answer : (r a b : ℚ) → (less r a b).answer ≡ r -ℚ a *ℚ b
unfolding less bind work done is_skipped
less_answer r a b = by_test (eq_ℚ a zero_ℚ) (eq_ℚ b zero_ℚ) refl refl
  where
    by_test : (s t : Bool) → eq_ℚ a zero_ℚ ≡ s → eq_ℚ b zero_ℚ ≡ t → (cond (s || t) (done r) (bind (work (a *ℚ b)) (λ product. work (r -ℚ product)))).answer ≡ r -ℚ a *ℚ b
    by_test true t e f = ring_ℚ 2 (λ r p. 𝟙 ⊙ p ≗ 𝟘 ⟹ r ≐ r ⊖ p) tt r (a *ℚ b) (no_product a b true t e f refl)
    by_test false true e f = ring_ℚ 2 (λ r p. 𝟙 ⊙ p ≗ 𝟘 ⟹ r ≐ r ⊖ p) tt r (a *ℚ b) (no_product a b false true e f refl)
    by_test false false e f = refl

pub more_answer : (r a b : ℚ) → (more r a b).answer ≡ r +ℚ a *ℚ b
unfolding more bind work done is_skipped
more_answer r a b = by_test (eq_ℚ a zero_ℚ) (eq_ℚ b zero_ℚ) refl refl
  where
    by_test : (s t : Bool) → eq_ℚ a zero_ℚ ≡ s → eq_ℚ b zero_ℚ ≡ t → (cond (s || t) (done r) (bind (work (a *ℚ b)) (λ product. work (r +ℚ product)))).answer ≡ r +ℚ a *ℚ b
    by_test true t e f = ring_ℚ 2 (λ r p. 𝟙 ⊙ 𝟘 ≗ p ⟹ r ≐ r ⊕ p) tt r (a *ℚ b) (sym (no_product a b true t e f refl))
    by_test false true e f = ring_ℚ 2 (λ r p. 𝟙 ⊙ 𝟘 ≗ p ⟹ r ≐ r ⊕ p) tt r (a *ℚ b) (sym (no_product a b false true e f refl))
    by_test false false e f = refl
