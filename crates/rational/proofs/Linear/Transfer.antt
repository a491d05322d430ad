-- Order and equality of two fractions over one number are those of the integers over it.
use Rattle.std.proofs.Common.{◌≡◌, ℕ, ◌+◌, ◌*◌, ◌<◌, ◌≤◌, ℤ, pos, ◌*ℤ◌, ◌≤ℤ◌, ◌<ℤ◌, sym, ◌∙◌, ap, subst, subst₂, mul-pos, mul-le-mul_right, mul-lt-mul_of_pos_right, arith}
use Rattle.std.proofs.lemmas.Int.{ints, by_lt_z}
use borrow.Author.Differences.{up, down}
use Rattle.rational.proofs.Integer.{*ℤ-cancel}
use Rattle.rational.specs.Rational.{ℚ, ◌≤ℚ◌, ◌<ℚ◌, le_ℚ, lt_ℚ}
use Rattle.rational.proofs.Ratio.{positive}
use Rattle.rational.proofs.Ring.{ring_ℤ, ◌≐◌, ◌⊙◌≗◌⟹◌, ◌⊗◌}
use Rattle.rational.proofs.RationalRing.Parts.{IsOver, equal_over}

-- ---- integers times a positive number

le_times : (x y : ℤ) (g : ℕ) → x ≤ℤ y → (x *ℤ pos g) ≤ℤ (y *ℤ pos g)
le_times x y g h =
    let sides : up x + down y ≤ up y + down x = omega (arith, ints) in
    omega (arith, ints, mul-le-mul_right g sides)

lt_times : (x y : ℤ) (g : ℕ) → 0 < g → x <ℤ y → (x *ℤ pos g) <ℤ (y *ℤ pos g)
lt_times x y g some h =
    let sides : up x + down y < up y + down x = omega (arith, ints) in
    omega (arith, ints, mul-lt-mul_of_pos_right sides some)

le_cancel : (x y : ℤ) (g : ℕ) → 0 < g → (x *ℤ pos g) ≤ℤ (y *ℤ pos g) → x ≤ℤ y
le_cancel x y g some h = by_lt_z y x (λ below. absurd (let more = lt_times y x g some below in omega (arith, ints))) (λ k. k)

lt_cancel : (x y : ℤ) (g : ℕ) → (x *ℤ pos g) <ℤ (y *ℤ pos g) → x <ℤ y
lt_cancel x y g h = by_lt_z x y (λ k. k) (λ above. absurd (let more = le_times y x g above in omega (arith, ints)))

-- x and y, d times, are m and n, g times
module _ (x y m n : ℤ) (d g : ℕ) (some : 0 < d) (more : 0 < g) (left : x *ℤ pos d ≡ m *ℤ pos g) (right : y *ℤ pos d ≡ n *ℤ pos g) where
  le_moved : x ≤ℤ y → m ≤ℤ n
  le_moved h = le_cancel m n g more (subst₂ (λ (s t : ℤ). s ≤ℤ t) left right (le_times x y d h))

  lt_moved : x <ℤ y → m <ℤ n
  lt_moved h = lt_cancel m n g (subst₂ (λ (s t : ℤ). s <ℤ t) left right (lt_times x y d some h))

-- ---- fractions

module _ {a b : ℚ} {m n : ℤ} {d : ℕ} (o : IsOver a m d) (u : IsOver b n d) where
  left : a.numerator *ℤ pos b.denominator *ℤ pos d ≡ m *ℤ pos (a.denominator * b.denominator)
  left = ring_ℤ 5 (λ s q m d c. c ⊙ s ⊗ d ≗ m ⊗ q ⟹ s ⊗ c ⊗ d ≐ m ⊗ (q ⊗ c)) tt a.numerator (pos a.denominator) m (pos d) (pos b.denominator) o.cross

  right : b.numerator *ℤ pos a.denominator *ℤ pos d ≡ n *ℤ pos (a.denominator * b.denominator)
  right = ring_ℤ 5 (λ s q n d c. c ⊙ s ⊗ d ≗ n ⊗ q ⟹ s ⊗ c ⊗ d ≐ n ⊗ (c ⊗ q)) tt b.numerator (pos b.denominator) n (pos d) (pos a.denominator) u.cross

  both : 0 < a.denominator * b.denominator
  both = mul-pos (positive a) (positive b)

  pub le_to : m ≤ℤ n → a ≤ℚ b
  unfolding le_ℚ
  le_to h = record { le = (le_moved m n _ _ _ d both o.some (sym left) (sym right) h).le }

  pub le_from : a ≤ℚ b → m ≤ℤ n
  unfolding le_ℚ
  le_from h = le_moved _ _ m n d _ o.some both left right (record { le = h.le })

  pub lt_to : m <ℤ n → a <ℚ b
  unfolding lt_ℚ
  lt_to h = record { lt = (lt_moved m n _ _ _ d both o.some (sym left) (sym right) h).lt }

  pub lt_from : a <ℚ b → m <ℤ n
  unfolding lt_ℚ
  lt_from h = lt_moved _ _ m n d _ o.some both left right (record { lt = h.lt })

  pub eq_to : m ≡ n → a ≡ b
  eq_to e = equal_over o u (ap (λ z. z *ℤ pos d) e)

  pub eq_from : a ≡ b → m ≡ n
  eq_from e =
      let P : ℚ → Type 0 = λ t. t.numerator *ℤ pos d ≡ m *ℤ pos t.denominator in
      let same : b.numerator *ℤ pos d ≡ m *ℤ pos b.denominator = subst P e o.cross in
      *ℤ-cancel m n b.denominator (positive b) (sym same ∙ u.cross)
