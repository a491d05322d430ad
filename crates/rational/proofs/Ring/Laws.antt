-- Commutative rings, and the laws that follow from the axioms.
use Rattle.std.specs.Prelude.{◌≡◌, ℤ, pos, negsuc, ◌+ℤ◌, ◌*ℤ◌}
use Rattle.std.proofs.Common.{sym, ◌∙◌, ap, ap₂}

-- A commutative ring with one, on the type A. `integer z` is z times one.
pub record CommutativeRing (A : Type 0) : Type 0 where
  pub zero : A
  pub one : A
  pub integer : ℤ → A
  pub add : A → A → A
  pub sub : A → A → A
  pub mul : A → A → A
  pub neg : A → A
  pub add_assoc : (a b c : A) → add (add a b) c ≡ add a (add b c)
  pub add_comm : (a b : A) → add a b ≡ add b a
  pub add-zero : (a : A) → add a zero ≡ a
  pub add-neg : (a : A) → add a (neg a) ≡ zero
  pub sub_is : (a b : A) → sub a b ≡ add a (neg b)
  pub mul_assoc : (a b c : A) → mul (mul a b) c ≡ mul a (mul b c)
  pub mul_comm : (a b : A) → mul a b ≡ mul b a
  pub mul-one : (a : A) → mul a one ≡ a
  pub mul-add : (a b c : A) → mul a (add b c) ≡ add (mul a b) (mul a c)
  pub integer-zero : integer (pos 0) ≡ zero
  pub integer-one : integer (pos 1) ≡ one
  pub integer-add : (m n : ℤ) → integer (m +ℤ n) ≡ add (integer m) (integer n)
  pub integer-mul : (m n : ℤ) → integer (m *ℤ n) ≡ mul (integer m) (integer n)

module _ {A : Type 0} (R : CommutativeRing A) where
  open R use {zero, one, integer, add, sub, mul, neg, add_assoc, add_comm, add-zero, add-neg, mul_assoc, mul_comm, mul-one, mul-add}

  pub add_left_comm : (a b c : A) → add a (add b c) ≡ add b (add a c)
  add_left_comm a b c = sym (add_assoc a b c) ∙ ap (λ t. add t c) (add_comm a b) ∙ add_assoc b a c

  pub zero-add : (a : A) → add zero a ≡ a
  zero-add a = add_comm zero a ∙ add-zero a

  pub add_left_cancel : (a b c : A) → add c a ≡ add c b → a ≡ b
  add_left_cancel a b c e = sym (from a) ∙ ap (add (neg c)) e ∙ from b
    where
      from : (t : A) → add (neg c) (add c t) ≡ t
      from t = sym (add_assoc (neg c) c t) ∙ ap (λ s. add s t) (add_comm (neg c) c ∙ add-neg c) ∙ zero-add t

  pub mul-zero : (a : A) → mul a zero ≡ zero
  mul-zero a =
      add_left_cancel (mul a zero) zero (mul a zero)
      (sym (mul-add a zero zero) ∙ ap (mul a) (add-zero zero) ∙ sym (add-zero (mul a zero)))

  pub zero-mul : (a : A) → mul zero a ≡ zero
  zero-mul a = mul_comm zero a ∙ mul-zero a

  pub add-mul : (a b c : A) → mul (add a b) c ≡ add (mul a c) (mul b c)
  add-mul a b c = mul_comm (add a b) c ∙ mul-add c a b ∙ ap₂ add (mul_comm c a) (mul_comm c b)

  pub one-mul : (a : A) → mul one a ≡ a
  one-mul a = mul_comm one a ∙ mul-one a

  pub mul_left_comm : (a b c : A) → mul a (mul b c) ≡ mul b (mul a c)
  mul_left_comm a b c = sym (mul_assoc a b c) ∙ ap (λ t. mul t c) (mul_comm a b) ∙ mul_assoc b a c

  pub add_exchange : (a b c d : A) → add (add a b) (add c d) ≡ add (add a c) (add b d)
  add_exchange a b c d = simp (add_assoc, add_left_comm)

  pub sub_same : (a : A) → sub a a ≡ zero
  sub_same a = R.sub_is a a ∙ add-neg a

  pub equal_of_sub : (a b : A) → sub a b ≡ zero → a ≡ b
  equal_of_sub a b e =
      add_left_cancel a b (neg b)
      (add_comm (neg b) a ∙ sym (R.sub_is a b) ∙ e ∙ sym (add-neg b) ∙ add_comm b (neg b))

  -- one and minus one is zero
  one-minus_one : add one (integer (negsuc 0)) ≡ zero
  one-minus_one = ap (λ t. add t (integer (negsuc 0))) (sym R.integer-one) ∙ sym (R.integer-add (pos 1) (negsuc 0)) ∙ R.integer-zero

  pub minus_one-mul : (a : A) → mul (integer (negsuc 0)) a ≡ neg a
  minus_one-mul a =
      add_left_cancel (mul (integer (negsuc 0)) a) (neg a) a
      (ap (λ t. add t (mul (integer (negsuc 0)) a)) (sym (one-mul a)) ∙ sym (add-mul one (integer (negsuc 0)) a)
      ∙ ap (λ t. mul t a) one-minus_one ∙ zero-mul a ∙ sym (add-neg a))
