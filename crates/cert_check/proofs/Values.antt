-- When a calculation settles: by its values, and by its parts.
use Rattle.std.proofs.Common.{◌≡◌, ℕ, true, cond, ◌&&◌, [], ◌∷◌, Some, None, Result, Ok, Err, refl, sym, ◌∙◌, ap, subst}
use Rattle.rational.specs.Rational.{ℚ}
use Rattle.rational.specs.Width.{FitsWidth}
use Rattle.rational.specs.Worked.{Worked, bind, done, settle}
use Rattle.rational.proofs.Settling.{settle-bind, settle-bind_none, settle-done, settle-same}
use Rattle.rational.proofs.WidthLaws.{fits_width-decides, unfit_tested}
use Rattle.exact_frac.specs.declared.unfit.Unfit.{Unfit}
use Rattle.exact_frac.specs.Settles.{Settles}

-- ── by the values ──

module _ {A : Type 0} (w : ℕ) where
  pub no_value : (a : A) → settle w (record { values = []; answer = a }) ≡ Some a
  unfolding settle
  no_value a = refl

  pub one_value : (v : ℚ) (a : A) → FitsWidth w v → settle w (record { values = v ∷ []; answer = a }) ≡ Some a
  unfolding settle
  one_value v a fits = ap (λ t. cond (t && true) (Some a) None) ((fits_width-decides w v).1 fits)

  pub one_unfit : (v : ℚ) (a : A) → ¬ FitsWidth w v → settle w (record { values = v ∷ []; answer = a }) ≡ None
  unfolding settle
  one_unfit v a unfit = ap (λ t. cond (t && true) (Some a) None) (unfit_tested w v unfit)

-- ── by the parts ──

-- what one calculation answers, another does that is the same
pub settles-like : {A : Type 0} (w : ℕ) (c d : Worked A) (r : Result A Unfit) → c ≡ d → Settles w c r → Settles w d r
settles-like w c d r same h = subst (λ e. Settles w e r) same h

module _ {A B : Type 0} (w : ℕ) (c : Worked A) (f : A → Worked B) where
  -- a first part that settles leaves the second to settle, at a width that is the same
  pub settles-then : (u : ℕ) (a : A) (r : Result B Unfit) → u ≡ w → settle w c ≡ Some a → Settles u (f a) r → Settles w (bind c f) r
  settles-then u a (Ok b) same first second = settle-bind w c f a first ∙ settle-same u w (f a) (f a) (Some b) (sym same) refl second
  settles-then u a (Err unfit) same first second = settle-bind w c f a first ∙ settle-same u w (f a) (f a) None (sym same) refl second

  -- and one that leaves nothing to work
  pub settles-last : (a : A) (b b' : B) → settle w c ≡ Some a → f a ≡ done b' → b' ≡ b → settle w (bind c f) ≡ Some b
  settles-last a b b' first last same = settle-bind w c f a first ∙ ap (settle w) last ∙ settle-done w b' ∙ ap Some same

  -- one that does not settles nothing
  pub settles-never : settle w c ≡ None → settle w (bind c f) ≡ None
  settles-never first = settle-bind_none w c f first
