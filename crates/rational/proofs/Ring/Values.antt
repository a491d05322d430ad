-- The value of an expression in a ring, and that its normal form has the same value.
use Rattle.std.specs.Prelude.{◌≡◌, ℕ, zero, suc, ◌&&◌, Bool, true, false, T, ℤ, pos, negsuc}
use Rattle.std.proofs.Common.{refl, sym, ◌∙◌, ap, ap₂}
use Rattle.rational.proofs.Ring.Expressions.{Expression, variable, literal, 𝟘, 𝟙, ◌⊕◌, ◌⊖◌, ◌⊗◌, ⊝◌, Polynomial, constant, ◌+X◌, plus_constant, plus, scale, times_rest, times, of_variable, normal, is_zero, vanishes}
use Rattle.rational.proofs.Ring.Laws.{CommutativeRing, zero-add, mul-zero, add-mul, mul_left_comm, add_exchange, minus_one-mul}

-- Variables are given by a function: the variable of number i is ρ i.

-- the variables from number 1 on, numbered from 0
abbrev pub rest : {A : Type 0} → (ℕ → A) → ℕ → A
rest ρ i = ρ (suc i)

-- one more variable, of number 0, before the variables ρ
abbrev pub with_first : {A : Type 0} → A → (ℕ → A) → ℕ → A
with_first a ρ zero = a
with_first a ρ (suc i) = ρ i

module _ {A : Type 0} (R : CommutativeRing A) where
  open R use {integer, add, sub, mul, neg, add_assoc, add_comm, add-zero, mul_assoc, mul_comm, mul-one, mul-add}

  -- the value of an expression
  abbrev pub eval : (ℕ → A) → Expression → A
  eval ρ (variable n) = ρ n
  eval ρ (literal z) = integer z
  eval ρ 𝟘 = R.zero
  eval ρ 𝟙 = R.one
  eval ρ (x ⊕ y) = add (eval ρ x) (eval ρ y)
  eval ρ (x ⊖ y) = sub (eval ρ x) (eval ρ y)
  eval ρ (x ⊗ y) = mul (eval ρ x) (eval ρ y)
  eval ρ (⊝ x) = neg (eval ρ x)

  -- the value of a polynomial
  abbrev pub value : (ℕ → A) → Polynomial → A
  value ρ (constant z) = integer z
  value ρ (p +X q) = add (value (rest ρ) p) (mul (ρ 0) (value ρ q))

  -- ---- sums

  plus_constant-value : (ρ : ℕ → A) (a : ℤ) (p : Polynomial) → value ρ (plus_constant a p) ≡ add (integer a) (value ρ p)
  plus_constant-value ρ a (constant b) = R.integer-add a b
  plus_constant-value ρ a (p +X q) = ap (λ t. add t (mul (ρ 0) (value ρ q))) (plus_constant-value (rest ρ) a p) ∙ add_assoc _ _ _

  sum_of_parts : (a b c d x : A) → add (add a c) (mul x (add b d)) ≡ add (add a (mul x b)) (add c (mul x d))
  sum_of_parts a b c d x = ap (add (add a c)) (mul-add x b d) ∙ add_exchange R a c (mul x b) (mul x d)

  pub plus-value : (ρ : ℕ → A) (p q : Polynomial) → value ρ (plus p q) ≡ add (value ρ p) (value ρ q)
  plus-value ρ (constant a) r = plus_constant-value ρ a r
  plus-value ρ (p +X q) (constant b) = plus_constant-value ρ b (p +X q) ∙ add_comm _ _
  plus-value ρ (p +X q) (r +X s) =
      ap₂ (λ t u. add t (mul (ρ 0) u)) (plus-value (rest ρ) p r) (plus-value ρ q s) ∙ sum_of_parts _ _ _ _ _

  -- ---- products

  scaled_parts : (a b c x : A) → add (mul a b) (mul x (mul a c)) ≡ mul a (add b (mul x c))
  scaled_parts a b c x = ap (add (mul a b)) (mul_left_comm R x a c) ∙ sym (mul-add a b (mul x c))

  scale-value : (ρ : ℕ → A) (a : ℤ) (p : Polynomial) → value ρ (scale a p) ≡ mul (integer a) (value ρ p)
  scale-value ρ a (constant b) = R.integer-mul a b
  scale-value ρ a (p +X q) =
      ap₂ (λ t u. add t (mul (ρ 0) u)) (scale-value (rest ρ) a p) (scale-value ρ a q) ∙ scaled_parts _ _ _ _

  negated-value : (ρ : ℕ → A) (p : Polynomial) → value ρ (scale (negsuc 0) p) ≡ neg (value ρ p)
  negated-value ρ p = scale-value ρ (negsuc 0) p ∙ minus_one-mul R (value ρ p)

  no_more : (a x : A) → add a (mul x (integer (pos 0))) ≡ a
  no_more a x = ap (λ t. add a (mul x t)) R.integer-zero ∙ ap (add a) (mul-zero R x) ∙ add-zero a

  no_rest : (a : A) → add (integer (pos 0)) a ≡ a
  no_rest a = ap (λ t. add t a) R.integer-zero ∙ zero-add R a

  times_rest-value : (ρ : ℕ → A) (f : Polynomial → Polynomial) (v : A)
      → ((r : Polynomial) → value (rest ρ) (f r) ≡ mul v (value (rest ρ) r))
      → (r : Polynomial) → value ρ (times_rest f r) ≡ mul v (value ρ r)
  times_rest-value ρ f v h (constant b) = no_more _ _ ∙ h (constant b)
  times_rest-value ρ f v h (r +X s) =
      ap₂ (λ t u. add t (mul (ρ 0) u)) (h r) (times_rest-value ρ f v h s) ∙ scaled_parts _ _ _ _

  product_of_parts : (a b c x : A) → add (mul a c) (mul x (mul b c)) ≡ mul (add a (mul x b)) c
  product_of_parts a b c x = ap (add (mul a c)) (sym (mul_assoc x b c)) ∙ sym (add-mul R a (mul x b) c)

  times-value : (ρ : ℕ → A) (p q : Polynomial) → value ρ (times p q) ≡ mul (value ρ p) (value ρ q)
  times-value ρ (constant a) r = scale-value ρ a r
  times-value ρ (p +X q) r =
      plus-value ρ (times_rest (times p) r) (constant (pos 0) +X times q r)
      ∙ ap₂ add (times_rest-value ρ (times p) (value (rest ρ) p) (times-value (rest ρ) p) r)
      (no_rest _ ∙ ap (mul (ρ 0)) (times-value ρ q r))
      ∙ product_of_parts _ _ _ _

  -- ---- the normal form

  of_variable-value : (ρ : ℕ → A) (n : ℕ) → value ρ (of_variable n) ≡ ρ n
  of_variable-value ρ zero = no_rest _ ∙ ap (mul (ρ 0)) R.integer-one ∙ mul-one (ρ 0)
  of_variable-value ρ (suc n) = no_more _ _ ∙ of_variable-value (rest ρ) n

  pub normal-value : (ρ : ℕ → A) (e : Expression) → value ρ (normal e) ≡ eval ρ e
  normal-value ρ (variable n) = of_variable-value ρ n
  normal-value ρ (literal z) = refl
  normal-value ρ 𝟘 = R.integer-zero
  normal-value ρ 𝟙 = R.integer-one
  normal-value ρ (x ⊕ y) = plus-value ρ (normal x) (normal y) ∙ ap₂ add (normal-value ρ x) (normal-value ρ y)
  normal-value ρ (x ⊖ y) =
      plus-value ρ (normal x) (scale (negsuc 0) (normal y))
      ∙ ap₂ add (normal-value ρ x) (negated-value ρ (normal y) ∙ ap neg (normal-value ρ y))
      ∙ sym (R.sub_is _ _)
  normal-value ρ (x ⊗ y) = times-value ρ (normal x) (normal y) ∙ ap₂ mul (normal-value ρ x) (normal-value ρ y)
  normal-value ρ (⊝ x) = negated-value ρ (normal x) ∙ ap neg (normal-value ρ x)

  -- ---- the check

  is_zero-value : (z : ℤ) → T (is_zero z) → integer z ≡ R.zero
  is_zero-value (pos zero) t = R.integer-zero
  is_zero-value (pos (suc n)) t = absurd t
  is_zero-value (negsuc n) t = absurd t

  both : (a b : Bool) → T (a && b) → T a × T b
  both true true t = (tt, tt)
  both true false t = absurd t
  both false b t = absurd t

  pub vanishes-value : (ρ : ℕ → A) (p : Polynomial) → T (vanishes p) → value ρ p ≡ R.zero
  vanishes-value ρ (constant z) t = is_zero-value z t
  vanishes-value ρ (p +X q) t =
      let each = both (vanishes p) (vanishes q) t in
      ap₂ (λ u v. add u (mul (ρ 0) v)) (vanishes-value (rest ρ) p each.0) (vanishes-value ρ q each.1)
      ∙ ap (add R.zero) (mul-zero R (ρ 0)) ∙ add-zero R.zero
