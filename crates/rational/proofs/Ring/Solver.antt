-- The ring solver: `ring`, which proves a claim that it is given, and `reading`, for a goal that stands.
use Rattle.std.specs.Prelude.{◌≡◌, ℕ, zero, suc, Bool, true, false, T, List, get_or, ℤ, pos}
use Rattle.std.proofs.Common.{refl, sym, ◌∙◌, ap, ap₂}
use Rattle.rational.proofs.Ring.Expressions.{Expression, variable, 𝟘, 𝟙, ◌⊕◌, ◌⊖◌, ◌⊗◌, ⊝◌, Claim, ◌≐◌, ◌⊙◌≗◌⟹◌, Over, Polynomial, constant, plus, normal, vanishes, difference, difference_over, NoneLeft, IsIdentity}
use Rattle.rational.proofs.Ring.Laws.{CommutativeRing, mul-zero, sub_same, equal_of_sub, zero-add}
use Rattle.rational.proofs.Ring.Values.{with_first, eval, value, plus-value, normal-value, vanishes-value}

none_left : (yes : Bool) (left : List (ℤ × List ℕ)) → NoneLeft yes left → T yes
none_left true left t = tt
none_left false left t = elim t [ ]

module _ {A : Type 0} (R : CommutativeRing A) where
  open R use {add, sub, mul, neg, add-zero}

  -- what a claim says where the variable of number i is ρ i
  abbrev pub Holds : (ℕ → A) → Claim → Type 0
  Holds ρ (l ≐ r) = eval R ρ l ≡ eval R ρ r
  Holds ρ (k ⊙ a ≗ b ⟹ claim) = eval R ρ a ≡ eval R ρ b → Holds ρ claim

  -- a given equation, taken k times, adds nothing
  given-value : (ρ : ℕ → A) (k a b : Expression) → eval R ρ a ≡ eval R ρ b → eval R ρ (k ⊗ (b ⊖ a)) ≡ R.zero
  given-value ρ k a b h =
      ap (λ t. mul (eval R ρ k) (sub (eval R ρ b) t)) h
      ∙ ap (mul (eval R ρ k)) (sub_same R (eval R ρ b)) ∙ mul-zero R (eval R ρ k)

  claim_holds : (ρ : ℕ → A) (p : Polynomial) (claim : Claim)
      → value R ρ p ≡ R.zero → T (vanishes (difference p claim)) → Holds ρ claim
  claim_holds ρ p (l ≐ r) e t =
      equal_of_sub R (eval R ρ l) (eval R ρ r)
      (sym (zero-add R _) ∙ sym (ap₂ add e (normal-value R ρ (l ⊖ r)))
      ∙ sym (plus-value R ρ p (normal (l ⊖ r))) ∙ vanishes-value R ρ _ t)
  claim_holds ρ p (k ⊙ a ≗ b ⟹ claim) e t = λ h.
      claim_holds ρ (plus p (normal (k ⊗ (b ⊖ a)))) claim
      (plus-value R ρ p (normal (k ⊗ (b ⊖ a)))
      ∙ ap₂ add e (normal-value R ρ (k ⊗ (b ⊖ a)) ∙ given-value ρ k a b h) ∙ add-zero R.zero) t

  -- what a claim over n variables says of all their values
  abbrev pub ForAll : (n : ℕ) → (ℕ → A) → Over n → Type 0
  ForAll zero ρ claim = Holds ρ claim
  ForAll (suc n) ρ f = (a : A) → ForAll n (with_first a ρ) (f (variable n))

  for_all : (n : ℕ) (ρ : ℕ → A) (f : Over n) → T (vanishes (difference_over n f)) → ForAll n ρ f
  for_all zero ρ claim t = claim_holds ρ (constant (pos 0)) claim R.integer-zero t
  for_all (suc n) ρ f t = λ a. for_all n (with_first a ρ) (f (variable n)) t

  -- `ring R n (λ x y .. . claim) tt a b ..` proves the claim at x = a, y = b, ..; `tt` is refused where it is no identity
  pub ring : (n : ℕ) (f : Over n) → IsIdentity n f → ForAll n (λ i. R.zero) f
  ring n f t = for_all n (λ i. R.zero) f (none_left _ _ t)

  -- ---- a goal that stands

  -- The value of an expression, which does not compute. `simp` makes the two sides of a goal such readings, by the laws
  -- below and an equation for each atom; then `same` proves it.
  unfoldable pub reading : (ℕ → A) → Expression → A
  reading ρ e = eval R ρ e

  -- `reading_atoms R (a ∷ b ∷ ..) (λ _ at same. ..)` proves a goal where `at 0` makes a reading of a, `at 1` of b, ..,
  -- and `same` proves two readings equal
  pub reading_atoms : (atoms : List A) {P : Type 0}
      → ((ρ : ℕ → A) → ((i : ℕ) → get_or atoms i R.zero ≡ reading ρ (variable i))
      → ((l r : Expression) → IsIdentity 0 (l ≐ r) → reading ρ l ≡ reading ρ r) → P)
      → P
  unfolding reading
  reading_atoms atoms k =
      let ρ = λ (i : ℕ). get_or atoms i R.zero in
      k ρ (λ i. refl) (λ l r t. claim_holds ρ (constant (pos 0)) (l ≐ r) R.integer-zero (none_left _ _ t))

  module _ (ρ : ℕ → A) where
    pub reading-zero : R.zero ≡ reading ρ 𝟘
    unfolding reading
    reading-zero = refl

    pub reading-one : R.one ≡ reading ρ 𝟙
    unfolding reading
    reading-one = refl

    pub reading-add : (x y : Expression) → add (reading ρ x) (reading ρ y) ≡ reading ρ (x ⊕ y)
    unfolding reading
    reading-add x y = refl

    pub reading-sub : (x y : Expression) → sub (reading ρ x) (reading ρ y) ≡ reading ρ (x ⊖ y)
    unfolding reading
    reading-sub x y = refl

    pub reading-mul : (x y : Expression) → mul (reading ρ x) (reading ρ y) ≡ reading ρ (x ⊗ y)
    unfolding reading
    reading-mul x y = refl

    pub reading-neg : (x : Expression) → neg (reading ρ x) ≡ reading ρ (⊝ x)
    unfolding reading
    reading-neg x = refl
