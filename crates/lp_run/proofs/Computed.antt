-- Facts over all indices below a numeral, each index by computation; what the worked decks stand on.
use Rattle.std.proofs.Common.{◌≡◌, ◌<◌, ℕ, zero, suc, inl, inr, List, length, Option, Some, IfSome, refl, subst, arith}
use Rattle.rational.specs.Rational.{ℚ, whole, zero_ℚ, one_ℚ, ◌+ℚ◌, ◌-ℚ◌, ◌*ℚ◌, ◌/ℚ◌, neg_ℚ, abs_ℚ, cmp_ℚ, eq_ℚ, lt_ℚ, le_ℚ}
use Rattle.rational.specs.Width.{fits_width}
use Rattle.rational.specs.Sum.{sum_ℚ, at}
use Rattle.rational.specs.Worked.{less, more}
use Rattle.lp_run.specs.Instance.{Instance, bounds, coefficient, column_count, cost, row_count}
use Rattle.lp_run.specs.State.{State, basic}
use Rattle.lp_run.specs.Solution.{IsTable, basis_times, reduced, right_left, times_basis}
use Rattle.lp_run.specs.Step.{Eligible, IsFree, IsLimit, Leaves, Limit, NotAfter, Pivoting, Rests, StepsBy, direction, limit_at, own_limit}

-- what the closed facts compute by
unfoldable pub closed : Unit {0}
unfolding whole zero_ℚ one_ℚ ◌+ℚ◌ neg_ℚ ◌-ℚ◌ ◌*ℚ◌ ◌/ℚ◌ abs_ℚ cmp_ℚ eq_ℚ lt_ℚ le_ℚ sum_ℚ fits_width less more
closed = tt

-- P at each index below m
abbrev pub Each : ℕ → (ℕ → Type 0) → Type 0
Each zero P = Unit {0}
Each (suc m) P = P 0 × Each m (λ j. P (suc j))

pub each : (m : ℕ) (P : ℕ → Type 0) → Each m P → (j : ℕ) → j < m → P j
each zero P h j less = absurd (omega arith)
each (suc m) P h zero less = h.0
each (suc m) P h (suc j) less = each m (λ k. P (suc k)) h.1 j (omega arith)

same : (m : ℕ) (f : ℕ → ℚ) → Each m (λ j. f j ≡ f j)
same zero f = tt
same (suc m) f = (refl, same m (λ j. f (suc j)))

-- equations of two functions of rows and columns, all at once where both sides compute to one
pub all_same : (k m : ℕ) (f : ℕ → ℕ → ℚ) → Each k (λ i. Each m (λ j. f i j ≡ f i j))
all_same zero m f = tt
all_same (suc k) m f = (same m (f 0), all_same k m (λ i. f (suc i)))

-- what holds of the value that an option holds
on_some : {A : Type 0} (P : A → Type 0) (o : Option A) (x : A) → IfSome o P → o ≡ Some x → P x
on_some P o x h e = subst (λ r. IfSome r P) e h

module _ (inst : Instance) (s : State) where
  pub table_by : (table : ℕ → ℕ → ℚ)
      → Each (row_count inst) (λ i. Each (column_count inst) (λ j. basis_times inst s (λ p. table p j) i ≡ coefficient inst i j)) → IsTable inst s table
  table_by table h i j row_less column_less =
      each (column_count inst) _ (each (row_count inst) (λ i. Each (column_count inst) (λ j. basis_times inst s (λ p. table p j) i ≡ coefficient inst i j)) h i row_less) j column_less

  pub pivoting_by : (y β α : List ℚ) (q : ℕ) → length y ≡ row_count inst → length β ≡ row_count inst → length α ≡ row_count inst
      → Each (row_count inst) (λ p. times_basis inst s (at y) p ≡ cost inst s.phase (basic s p))
      → Each (row_count inst) (λ i. basis_times inst s (at β) i ≡ right_left inst s i)
      → Each (row_count inst) (λ i. basis_times inst s (at α) i ≡ coefficient inst i q)
      → Eligible inst s y q → Each q (λ j. Eligible inst s y j → ⊥) → Pivoting inst s y β α q
  pivoting_by y β α q y_len β_len α_len prices values column eligible least = record {
    prices = record { one_each = y_len; solves = each (row_count inst) _ prices };
    values = record { one_each = β_len; solves = each (row_count inst) _ values };
    enters = record { eligible = eligible; least = each q _ least };
    column = record { one_each = α_len; solves = each (row_count inst) _ column };
  }

  pub rests_by : (y β : List ℚ) → length y ≡ row_count inst → length β ≡ row_count inst
      → Each (row_count inst) (λ p. times_basis inst s (at y) p ≡ cost inst s.phase (basic s p))
      → Each (row_count inst) (λ i. basis_times inst s (at β) i ≡ right_left inst s i)
      → Each (column_count inst) (λ j. Eligible inst s y j → ⊥) → Rests inst s y β
  rests_by y β y_len β_len prices values none = record {
    prices = record { one_each = y_len; solves = each (row_count inst) _ prices };
    values = record { one_each = β_len; solves = each (row_count inst) _ values };
    none_eligible = λ j eligible. each (column_count inst) (λ j. Eligible inst s y j → ⊥) none j eligible.in_range eligible;
  }

  -- what holds of each limit, where it holds of each position's and of the entering column's own
  each_limit : (q : ℕ) (t : ℚ) (β α : List ℚ) (P : Limit → Type 0)
      → Each (row_count inst) (λ p. IfSome (limit_at inst s q t β α p) P) → IfSome (own_limit (bounds inst s.phase q) q) P
      → (limit : Limit) → IsLimit inst s q t β α limit → P limit
  each_limit q t β α P positions own limit (inl h) =
      on_some P (limit_at inst s q t β α h.0) limit (each (row_count inst) (λ p. IfSome (limit_at inst s q t β α p) P) positions h.0 h.1) h.2
  each_limit q t β α P positions own limit (inr h) = on_some P (own_limit (bounds inst s.phase q) q) limit own h

  pub leaves_by : (q : ℕ) (t : ℚ) (β α : List ℚ) (limit : Limit) → IsLimit inst s q t β α limit
      → Each (row_count inst) (λ p. IfSome (limit_at inst s q t β α p) (NotAfter limit)) → IfSome (own_limit (bounds inst s.phase q) q) (NotAfter limit)
      → Leaves inst s q t β α limit
  leaves_by q t β α limit is positions own = record { is_limit = is; first = each_limit q t β α (NotAfter limit) positions own }

  pub free_by : (q : ℕ) (t : ℚ) (β α : List ℚ)
      → Each (row_count inst) (λ p. IfSome (limit_at inst s q t β α p) (λ _. ⊥)) → IfSome (own_limit (bounds inst s.phase q) q) (λ _. ⊥) → IsFree inst s q t β α
  free_by q t β α = each_limit q t β α (λ _. ⊥)

  pub steps_by : (y β α : List ℚ) (q : ℕ) (limit : Limit) → Pivoting inst s y β α q → Leaves inst s q (direction (reduced inst s y q)) β α limit → StepsBy inst s limit.entry
  steps_by y β α q limit pivoting leaves = (y, β, α, q, limit, pivoting, leaves, refl)
