-- Laws of finite sums of fractions.
use Rattle.std.proofs.Common.{◌≡◌, ◌≢◌, ℕ, zero, suc, ◌+◌, ◌<◌, ◌≤◌, ◌⊎◌, inl, inr, refl, sym, ◌∙◌, ap, ap₂, subst, Bool, true, false, cond, eqb, eqb-true, eq-eqb, ne_eqb, arith, add-suc, add-zero}
use Rattle.std.proofs.lemmas.Bool.{eqb-false}
use Rattle.std.proofs.lemmas.Int.{ints}
use Rattle.std.proofs.Math.Nat.{eq-or-lt_of_le}
use Rattle.rational.specs.Rational.{ℚ, zero_ℚ, one_ℚ, ◌≤ℚ◌, ◌+ℚ◌, ◌-ℚ◌, ◌*ℚ◌}
use Rattle.rational.proofs.RationalRing.{ring_ℚ}
use Rattle.rational.proofs.Ring.{◌≐◌, ◌⊕◌, ◌⊖◌, ◌⊗◌, 𝟘, 𝟙}
use Rattle.rational.specs.Sum.{sum_ℚ}
use Rattle.rational.specs.Sparse.{at_index}
use Rattle.rational.proofs.Linear.{linear, ◌≼◌, ◌≐◌, ◌⟹◌}
use Rattle.rational.proofs.SparseLaws.{at_index-same, at_index-other}

pub sum-zero_terms : (f : ℕ → ℚ) → sum_ℚ 0 f ≡ zero_ℚ
unfolding sum_ℚ
sum-zero_terms f = refl

pub sum-suc : (n : ℕ) (f : ℕ → ℚ) → sum_ℚ (suc n) f ≡ sum_ℚ n f +ℚ f n
unfolding sum_ℚ
sum-suc n f = refl

-- equal terms make equal sums
pub sum-cong : (n : ℕ) (f g : ℕ → ℚ) → ((i : ℕ) → i < n → f i ≡ g i) → sum_ℚ n f ≡ sum_ℚ n g
unfolding sum_ℚ
sum-cong zero f g h = refl
sum-cong (suc n) f g h = ap₂ ◌+ℚ◌ (sum-cong n f g (λ i b. h i (omega arith))) (h n (omega arith))

pub sum-none : (n : ℕ) (f : ℕ → ℚ) → ((i : ℕ) → i < n → f i ≡ zero_ℚ) → sum_ℚ n f ≡ zero_ℚ
unfolding sum_ℚ
sum-none zero f h = refl
sum-none (suc n) f h = ap₂ ◌+ℚ◌ (sum-none n f (λ i b. h i (omega arith))) (h n (omega arith)) ∙ ring_ℚ 0 (𝟘 ⊕ 𝟘 ≐ 𝟘) tt

pub sum-add : (n : ℕ) (f g : ℕ → ℚ) → sum_ℚ n (λ i. f i +ℚ g i) ≡ sum_ℚ n f +ℚ sum_ℚ n g
unfolding sum_ℚ
sum-add zero f g = ring_ℚ 0 (𝟘 ≐ 𝟘 ⊕ 𝟘) tt
sum-add (suc n) f g = ap (λ s. s +ℚ (f n +ℚ g n)) (sum-add n f g) ∙ ring_ℚ 4 (λ a b c d. (a ⊕ b) ⊕ (c ⊕ d) ≐ (a ⊕ c) ⊕ (b ⊕ d)) tt (sum_ℚ n f) (sum_ℚ n g) (f n) (g n)

pub sum-sub : (n : ℕ) (f g : ℕ → ℚ) → sum_ℚ n (λ i. f i -ℚ g i) ≡ sum_ℚ n f -ℚ sum_ℚ n g
unfolding sum_ℚ
sum-sub zero f g = ring_ℚ 0 (𝟘 ≐ 𝟘 ⊖ 𝟘) tt
sum-sub (suc n) f g = ap (λ s. s +ℚ (f n -ℚ g n)) (sum-sub n f g) ∙ ring_ℚ 4 (λ a b c d. (a ⊖ b) ⊕ (c ⊖ d) ≐ (a ⊕ c) ⊖ (b ⊕ d)) tt (sum_ℚ n f) (sum_ℚ n g) (f n) (g n)

pub sum-scale : (n : ℕ) (c : ℚ) (f : ℕ → ℚ) → sum_ℚ n (λ i. c *ℚ f i) ≡ c *ℚ sum_ℚ n f
unfolding sum_ℚ
sum-scale zero c f = ring_ℚ 1 (λ c. 𝟘 ≐ c ⊗ 𝟘) tt c
sum-scale (suc n) c f = ap (λ s. s +ℚ c *ℚ f n) (sum-scale n c f) ∙ ring_ℚ 3 (λ c s t. c ⊗ s ⊕ c ⊗ t ≐ c ⊗ (s ⊕ t)) tt c (sum_ℚ n f) (f n)

pub sum-scale_right : (n : ℕ) (f : ℕ → ℚ) (c : ℚ) → sum_ℚ n (λ i. f i *ℚ c) ≡ sum_ℚ n f *ℚ c
unfolding sum_ℚ
sum-scale_right zero f c = ring_ℚ 1 (λ c. 𝟘 ≐ 𝟘 ⊗ c) tt c
sum-scale_right (suc n) f c = ap (λ s. s +ℚ f n *ℚ c) (sum-scale_right n f c) ∙ ring_ℚ 3 (λ c s t. s ⊗ c ⊕ t ⊗ c ≐ (s ⊕ t) ⊗ c) tt c (sum_ℚ n f) (f n)

-- no greater terms make no greater sum
pub sum-mono : (n : ℕ) (f g : ℕ → ℚ) → ((i : ℕ) → i < n → f i ≤ℚ g i) → sum_ℚ n f ≤ℚ sum_ℚ n g
sum-mono zero f g h =
    linear 2 (λ x y. x ≐ 𝟘 ⟹ y ≐ 𝟘 ⟹ x ≼ y) (omega (arith, ints)) (sum_ℚ 0 f) (sum_ℚ 0 g) (sum-zero_terms f) (sum-zero_terms g)
sum-mono (suc n) f g h =
    linear 6 (λ x y s t a b. x ≐ s ⊕ a ⟹ y ≐ t ⊕ b ⟹ s ≼ t ⟹ a ≼ b ⟹ x ≼ y) (omega (arith, ints))
    (sum_ℚ (suc n) f) (sum_ℚ (suc n) g) (sum_ℚ n f) (sum_ℚ n g) (f n) (g n)
    (sum-suc n f) (sum-suc n g) (sum-mono n f g (λ i b. h i (omega arith))) (h n (omega arith))

-- two sums change places
pub sum-exchange : (m n : ℕ) (f : ℕ → ℕ → ℚ) → sum_ℚ m (λ i. sum_ℚ n (λ j. f i j)) ≡ sum_ℚ n (λ j. sum_ℚ m (λ i. f i j))
unfolding sum_ℚ
sum-exchange zero n f = sym (sum-none n (λ j. zero_ℚ) (λ j h. refl))
sum-exchange (suc m) n f =
    ap (λ s. s +ℚ sum_ℚ n (f m)) (sum-exchange m n f) ∙ sym (sum-add n (λ j. sum_ℚ m (λ i. f i j)) (f m))

-- two cases of an index: p or another one
pub at_or_other : (P : ℕ → Type 0) (p k : ℕ) → P p → (k ≢ p → P k) → P k
at_or_other P p k here there = by_test (eqb k p) refl
  where
    by_test : (b : Bool) → eqb k p ≡ b → P k
    by_test true e = subst P (sym (eqb-true k p e)) here
    by_test false e = there (eqb-false k p e)

change-last : (n p : ℕ) (f g : ℕ → ℚ) → p < suc n → ((i : ℕ) → i < suc n → i ≢ p → g i ≡ f i) → (p < n → sum_ℚ n g ≡ sum_ℚ n f +ℚ (g p -ℚ f p))
    → (p ≡ n) ⊎ (p < n) → sum_ℚ n g +ℚ g n ≡ sum_ℚ n f +ℚ f n +ℚ (g p -ℚ f p)
change-last n p f g within same below (inl e) =
    let same_below : sum_ℚ n g ≡ sum_ℚ n f = sum-cong n g f (λ i h. same i (omega arith) (omega arith)) in
    ap (λ s. s +ℚ g n) same_below ∙ ring_ℚ 3 (λ s a b. s ⊕ a ≐ s ⊕ b ⊕ (a ⊖ b)) tt (sum_ℚ n f) (g n) (f n) ∙ ap (λ k. sum_ℚ n f +ℚ f n +ℚ (g k -ℚ f k)) (sym e)
change-last n p f g within same below (inr less) =
    ap₂ ◌+ℚ◌ (below less) (same n (omega arith) (omega arith))
    ∙ ring_ℚ 4 (λ s a b c. s ⊕ (a ⊖ b) ⊕ c ≐ s ⊕ c ⊕ (a ⊖ b)) tt (sum_ℚ n f) (g p) (f p) (f n)

-- a sum of which one term is changed
pub sum-change : (n p : ℕ) (f g : ℕ → ℚ) → p < n → ((i : ℕ) → i < n → i ≢ p → g i ≡ f i) → sum_ℚ n g ≡ sum_ℚ n f +ℚ (g p -ℚ f p)
unfolding sum_ℚ
sum-change zero p f g within same = absurd (omega arith)
sum-change (suc n) p f g within same =
    let at_most : p ≤ n = omega arith in
    change-last n p f g within same (λ less. sum-change n p f g less (λ i h d. same i (omega arith) d)) (eq-or-lt_of_le at_most)

-- a sum of which two terms are changed
pub sum-change_two : (n p q : ℕ) (f g : ℕ → ℚ) → p < n → q < n → p ≢ q → ((i : ℕ) → i < n → i ≢ p → i ≢ q → g i ≡ f i)
    → sum_ℚ n g ≡ sum_ℚ n f +ℚ (g p -ℚ f p) +ℚ (g q -ℚ f q)
sum-change_two n p q f g within also apart same =
    let first = λ (i : ℕ). cond (eqb i p) (g i) (f i) in
    let at_p : first p ≡ g p = ap (λ b. cond b (g p) (f p)) (eq-eqb p p refl) in
    let elsewhere : (i : ℕ) → i ≢ p → first i ≡ f i = λ i other. ap (λ b. cond b (g i) (f i)) (ne_eqb i p other) in
    sum-change n q first g also
    (λ i b other. at_or_other (λ i. i < n → i ≢ q → g i ≡ first i) p i (λ c d. sym at_p) (λ not_p c d. same i c not_p d ∙ sym (elsewhere i not_p)) b other)
    ∙ ap₂ (λ a b. a +ℚ (g q -ℚ b)) (sum-change n p f first within (λ i b other. elsewhere i other)) (elsewhere q (λ e. apart (sym e)))
    ∙ ap (λ a. sum_ℚ n f +ℚ (a -ℚ f p) +ℚ (g q -ℚ f q)) at_p

-- a sum of which one term alone is not 0
pub sum-single : (n p : ℕ) (f : ℕ → ℚ) → p < n → ((i : ℕ) → i < n → i ≢ p → f i ≡ zero_ℚ) → sum_ℚ n f ≡ f p
sum-single n p f within others =
    sum-change n p (λ i. zero_ℚ) f within others ∙ ap (λ s. s +ℚ (f p -ℚ zero_ℚ)) (sum-none n (λ i. zero_ℚ) (λ i h. refl))
    ∙ ring_ℚ 1 (λ a. 𝟘 ⊕ (a ⊖ 𝟘) ≐ a) tt (f p)

-- the terms from n on follow those below n
pub sum-split : (n m : ℕ) (f : ℕ → ℚ) → sum_ℚ (n + m) f ≡ sum_ℚ n f +ℚ sum_ℚ m (λ i. f (n + i))
unfolding sum_ℚ
sum-split n zero f = ap (λ k. sum_ℚ k f) (add-zero n) ∙ ring_ℚ 1 (λ s. s ≐ s ⊕ 𝟘) tt (sum_ℚ n f)
sum-split n (suc m) f =
    ap (λ k. sum_ℚ k f) (add-suc n m) ∙ ap (λ s. s +ℚ f (n + m)) (sum-split n m f)
    ∙ ring_ℚ 3 (λ a b c. a ⊕ b ⊕ c ≐ a ⊕ (b ⊕ c)) tt (sum_ℚ n f) (sum_ℚ m (λ i. f (n + i))) (f (n + m))

-- the first term comes before the others
pub sum-shift : (n : ℕ) (f : ℕ → ℚ) → sum_ℚ (suc n) f ≡ f 0 +ℚ sum_ℚ n (λ k. f (suc k))
unfolding sum_ℚ
sum-shift zero f = ring_ℚ 1 (λ a. 𝟘 ⊕ a ≐ a ⊕ 𝟘) tt (f 0)
sum-shift (suc n) f =
    ap (λ z. z +ℚ f (suc n)) (sum-shift n f)
    ∙ ring_ℚ 3 (λ a s b. a ⊕ s ⊕ b ≐ a ⊕ (s ⊕ b)) tt (f 0) (sum_ℚ n (λ k. f (suc k))) (f (suc n))

-- the sum of a vector against a row of the unit matrix
pub sum-unit : (m k : ℕ) (v : ℕ → ℚ) → k < m → sum_ℚ m (λ p. at_index k p one_ℚ *ℚ v p) ≡ v k
sum-unit m k v within =
    sum-single m k (λ p. at_index k p one_ℚ *ℚ v p) within (λ p b other. ap (λ a. a *ℚ v p) (at_index-other k p one_ℚ (λ e. other (sym e))) ∙ ring_ℚ 1 (λ a. 𝟘 ⊗ a ≐ 𝟘) tt (v p))
    ∙ ap (λ a. a *ℚ v k) (at_index-same k one_ℚ) ∙ ring_ℚ 1 (λ a. 𝟙 ⊗ a ≐ a) tt (v k)

pub sum-unit_right : (m k : ℕ) (v : ℕ → ℚ) → k < m → sum_ℚ m (λ p. v p *ℚ at_index p k one_ℚ) ≡ v k
sum-unit_right m k v within =
    sum-single m k (λ p. v p *ℚ at_index p k one_ℚ) within (λ p b other. ap (λ a. v p *ℚ a) (at_index-other p k one_ℚ other) ∙ ring_ℚ 1 (λ a. a ⊗ 𝟘 ≐ 𝟘) tt (v p))
    ∙ ap (λ a. v k *ℚ a) (at_index-same k one_ℚ) ∙ ring_ℚ 1 (λ a. a ⊗ 𝟙 ≐ a) tt (v k)
