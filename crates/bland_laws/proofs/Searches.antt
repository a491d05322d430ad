-- Searches over finitely many: the least index, and the first of finitely many limits.
use Rattle.std.proofs.Common.{◌≡◌, ℕ, zero, suc, ◌<◌, ◌≤◌, ◌⊎◌, inl, inr, Option, Some, None, refl, sym, ◌∙◌, subst, arith}
use Rattle.std.proofs.lemmas.Bool.{cases_lt}
use Rattle.std.proofs.lemmas.Int.{ints}
use Rattle.rational.specs.Rational.{◌<ℚ◌}
use Rattle.rational.proofs.Linear.{linear, ◌≼◌, ◌≺◌, ◌≐◌, ◌⟹◌}
use Rattle.rational.proofs.OrderLaws.{by_lt_ℚ}
use Rattle.rational.proofs.SumLaws.{at_or_other}
use Rattle.lp_run.specs.Step.{Limit, NotAfter}

-- what holds of the last index below a bound and of those before it holds of each
last_or_before : (n k : ℕ) (P : ℕ → Type 0) → k < suc n → P n → (k < n → P k) → P k
last_or_before n k P b last before = at_or_other P n k last (λ other. before (omega arith))

-- an index below the bound at which Q holds, or P at each
pub find_or_all : (n : ℕ) (P Q : ℕ → Type 0) → ((k : ℕ) → k < n → P k ⊎ Q k) → ((k : ℕ) × (k < n) × Q k) ⊎ ((k : ℕ) → k < n → P k)
find_or_all zero P Q test = inr (λ k b. absurd (omega arith))
find_or_all (suc n) P Q test = with_last (test n (omega arith)) (find_or_all n P Q (λ k b. test k (omega arith)))
  where
    with_last : P n ⊎ Q n → ((k : ℕ) × (k < n) × Q k) ⊎ ((k : ℕ) → k < n → P k) → ((k : ℕ) × (k < suc n) × Q k) ⊎ ((k : ℕ) → k < suc n → P k)
    with_last (inr q) before = inl (n, omega arith, q)
    with_last (inl p) (inl (k, b, q)) = inl (k, omega (arith, b), q)
    with_last (inl p) (inr all) = inr (λ k b. last_or_before n k P b p (all k))

-- the least index below the bound at which P holds
pub record IsLeast (P : ℕ → Type 0) (k : ℕ) : Type 0 where
  pub holds : P k
  pub first : (j : ℕ) → j < k → P j → ⊥

pub least_or_none : (n : ℕ) (P : ℕ → Type 0) → ((k : ℕ) → k < n → P k ⊎ (P k → ⊥)) → ((k : ℕ) × IsLeast P k) ⊎ ((k : ℕ) → k < n → P k → ⊥)
least_or_none zero P test = inr (λ k b. absurd (omega arith))
least_or_none (suc n) P test = with_last (test n (omega arith)) (least_or_none n P (λ k b. test k (omega arith)))
  where
    with_last : P n ⊎ (P n → ⊥) → ((k : ℕ) × IsLeast P k) ⊎ ((k : ℕ) → k < n → P k → ⊥) → ((k : ℕ) × IsLeast P k) ⊎ ((k : ℕ) → k < suc n → P k → ⊥)
    with_last now (inl found) = inl found
    with_last (inl p) (inr none) = inl (n, record { holds = p; first = none })
    with_last (inr not) (inr none) = inr (λ k b. last_or_before n k (λ k. P k → ⊥) b not (none k))

-- ── the first of finitely many limits ──

pub in_order : (a b : Limit) → NotAfter a b ⊎ NotAfter b a
in_order a b =
    by_lt_ℚ a.ratio b.ratio (λ less. inl (inl less))
    (λ not_less. by_lt_ℚ b.ratio a.ratio (λ more. inr (inl more))
    (λ not_more. by_column (linear 2 (λ x y. y ≼ x ⟹ x ≼ y ⟹ x ≐ y) (omega (arith, ints)) a.ratio b.ratio not_less not_more) (cases_lt a.column b.column)))
  where
    by_column : a.ratio ≡ b.ratio → (a.column < b.column) ⊎ (b.column ≤ a.column) → NotAfter a b ⊎ NotAfter b a
    by_column same (inl less) = inl (inr (same, omega arith))
    by_column same (inr more) = inr (inr (sym same, more))

in_chain : (a b c : Limit) → NotAfter a b → NotAfter b c → NotAfter a c
in_chain a b c (inl h) (inl g) = inl (linear 3 (λ x y z. x ≺ y ⟹ y ≺ z ⟹ x ≺ z) (omega (arith, ints)) a.ratio b.ratio c.ratio h g)
in_chain a b c (inl h) (inr g) = inl (subst (λ z. a.ratio <ℚ z) g.0 h)
in_chain a b c (inr h) (inl g) = inl (subst (λ z. z <ℚ c.ratio) (sym h.0) g)
in_chain a b c (inr h) (inr g) = inr (h.0 ∙ g.0, omega (arith, h.1, g.1))

itself : (a b : Limit) → a ≡ b → NotAfter a b
itself a b same = subst (NotAfter a) same (inr (refl, omega arith))

pub record IsFirst (Is : Limit → Type 0) (a : Limit) : Type 0 where
  pub is : Is a
  pub first : (other : Limit) → Is other → NotAfter a other

-- one that comes first, or none at all
abbrev pub FirstOrNone : (Limit → Type 0) → Type 0
FirstOrNone Is = ((a : Limit) × IsFirst Is a) ⊎ ((a : Limit) → Is a → ⊥)

same_limit : (a b : Limit) → Some a ≡ Some b → a ≡ b
same_limit a b e = cc

no_limit : (a : Limit) → None ≡ Some a → ⊥
no_limit a e = cc e

-- with one limit more
pub one_more : (Is : Limit → Type 0) → FirstOrNone Is → (o : Option Limit) → FirstOrNone (λ a. Is a ⊎ (o ≡ Some a))
one_more Is (inr none) None = inr (λ a is. elim is [ inl i ↦ none a i | inr e ↦ no_limit a e ])
one_more Is (inr none) (Some b) =
    inl (b, record { is = inr refl; first = λ other is. elim is [ inl i ↦ absurd (none other i) | inr e ↦ itself b other (same_limit b other e) ] })
one_more Is (inl (a, h)) None = inl (a, record { is = inl h.is; first = λ other is. elim is [ inl i ↦ h.first other i | inr e ↦ absurd (no_limit other e) ] })
one_more Is (inl (a, h)) (Some b) = by_order (in_order a b)
  where
    by_order : NotAfter a b ⊎ NotAfter b a → FirstOrNone (λ a. Is a ⊎ (Some b ≡ Some a))
    by_order (inl before) =
        inl (a, record { is = inl h.is; first = λ other is. elim is [ inl i ↦ h.first other i | inr e ↦ subst (NotAfter a) (same_limit b other e) before ] })
    by_order (inr behind) =
        inl (
          b,
          record {
            is = inr refl;
            first = λ other is. elim is [
              | inl i ↦ in_chain b a other behind (h.first other i)
              | inr e ↦ itself b other
                  (same_limit b other e)
            ];
          },
        )

abbrev pub Below : (ℕ → Option Limit) → ℕ → Limit → Type 0
Below f n a = (k : ℕ) × (k < n) × (f k ≡ Some a)

-- of those at the indices below a bound
pub first_below : (n : ℕ) (f : ℕ → Option Limit) → FirstOrNone (Below f n)
first_below zero f = inr (λ a is. never is.0 is.1)
  where
    never : (k : ℕ) → k < 0 → ⊥
    never k b = omega arith
first_below (suc n) f = carried (one_more (Below f n) (first_below n f) (f n))
  where
    to : (a : Limit) → Below f n a ⊎ (f n ≡ Some a) → Below f (suc n) a
    to a (inl (k, b, e)) = (k, omega (arith, b), e)
    to a (inr e) = (n, omega arith, e)

    from : (a : Limit) → Below f (suc n) a → Below f n a ⊎ (f n ≡ Some a)
    from a (k, b, e) = last_or_before n k (λ k. f k ≡ Some a → Below f n a ⊎ (f n ≡ Some a)) b inr (λ less e. inl (k, less, e)) e

    carried : FirstOrNone (λ a. Below f n a ⊎ (f n ≡ Some a)) → FirstOrNone (Below f (suc n))
    carried (inl (a, h)) = inl (a, record { is = to a h.is; first = λ other is. h.first other (from other is) })
    carried (inr none) = inr (λ a is. none a (from a is))
