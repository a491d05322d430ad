-- What is known of the ranges of a state, position after position.
use Rattle.std.proofs.Common.{◌≡◌, ◌≢◌, ◌↔◌, ℕ, ◌+◌, ◌<◌, List, [], ◌∷◌, ◌++◌, length, get_or, Option, Some, None, Bool, true, false, not, ◌&&◌, cond, refl, sym, ◌∙◌, ap, ap₂, subst, arith}
use Rattle.lp_model.specs.declared.Status.TheVariants as status
use Rattle.lp_model.specs.Deck.{Interval, Within, in_sense}
use Rattle.rational.specs.Rational.{ℚ, zero_ℚ, one_ℚ, ◌/ℚ◌, neg_ℚ, eq_ℚ}
use Rattle.rational.specs.Sum.{at}
use Rattle.rational.proofs.SumLaws.{at_or_other}
use Rattle.lp_run.specs.Instance.{Instance, bounds, column_count, row_count, structural_count}
use Rattle.lp_run.specs.State.{IsState, State, basic, status_of}
use Rattle.ranging.specs.declared.limits.Limits.{Limits}
use Rattle.ranging.specs.Inner.Found.{AreBegun, AreLimits, FitAll, IsCostLimit, IsPosition, IsRightLimit, IsWide, TakesMove, TakesPosition, own_limit}
use Rattle.ranging.specs.Inner.Limits.{CostsHold, cost_limit, counted, meet, value_limit}
use Rattle.ranging.specs.Listing.{cost_quotient, cost_quotients, is_looked_at, move_values}
use Rattle.ranging.specs.Ranges.{everything}
use Rattle.ranging.proofs.FirstWide.{same-flat}
use Rattle.ranging.proofs.Changes.{within_both}
use Rattle.std.proofs.Math.ListN.{get_or-append}
use Rattle.std.proofs.Math.Seq.{get_or-append_seam}
use borrow.Author.Count.{below_more}

-- ── a list that grows ──

pub pushed : (P : ℕ → Option Interval → Type 0) (xs : List (Option Interval)) (v : Option Interval) (n : ℕ) → length xs ≡ n → ((j : ℕ) → j < n → P j (get_or xs j None)) → P n v
    → (j : ℕ) → j < n + 1 → P j (get_or (xs ++ v ∷ []) j None)
pushed P xs v n count each last =
    below_more (λ j. P j (get_or (xs ++ v ∷ []) j None)) n (λ j b. subst (P j) (sym (get_or-append xs (v ∷ []) None j (subst (λ m. j < m) (sym count) b))) (each j b))
    (subst (λ m. P m (get_or (xs ++ v ∷ []) m None)) count (subst2 P count (get_or-append_seam xs v [] None) last))
  where
    subst2 : (P : ℕ → Option Interval → Type 0) {m n : ℕ} {a b : Option Interval} → m ≡ n → a ≡ b → P n b → P m a
    subst2 P {m} {n} {a} {b} e f h = subst (λ k. P k a) (sym e) (subst (P n) (sym f) h)

-- ── numbers that agree where a column is looked at ──

module _ (inst : Instance) (s : State) (d d' r r' : ℕ → ℚ)
    (costs : (k : ℕ) → k < column_count inst → is_looked_at inst s k ≡ true → d' k ≡ d k) (row : (k : ℕ) → k < column_count inst → is_looked_at inst s k ≡ true → r' k ≡ r k) where
  same_quotient : (k : ℕ) → k < column_count inst → cost_quotient inst s (d' k) (r' k) k ≡ cost_quotient inst s (d k) (r k) k
  same_quotient k b = by_test (is_looked_at inst s k) refl
    where
      by_test : (t : Bool) → is_looked_at inst s k ≡ t
          → cond (t && not (eq_ℚ (r' k) zero_ℚ)) ((d' k /ℚ r' k) ∷ []) [] ≡ cond (t && not (eq_ℚ (r k) zero_ℚ)) ((d k /ℚ r k) ∷ []) []
      by_test true e = ap₂ (λ d r. cond (not (eq_ℚ r zero_ℚ)) ((d /ℚ r) ∷ []) []) (costs k b e) (row k b e)
      by_test false e = refl

  same_quotients : cost_quotients inst s d' r' ≡ cost_quotients inst s d r
  same_quotients = same-flat (λ k. cost_quotient inst s (d' k) (r' k) k) (λ k. cost_quotient inst s (d k) (r k) k) (column_count inst) same_quotient

  same_hold : (u : ℚ) → CostsHold inst s d' r' u ↔ CostsHold inst s d r u
  same_hold u = (
    λ h k b l. subst (λ z. Within (cost_limit (status_of s k) z (r k)) u) (costs k b l) (subst (λ z. Within (cost_limit (status_of s k) (d' k) z) u) (row k b l) (h k b l)),
    λ h k b l. subst (λ z. Within (cost_limit (status_of s k) (d' k) z) u) (sym (row k b l)) (subst (λ z. Within (cost_limit (status_of s k) z (r k)) u) (sym (costs k b l)) (h k b l)),
  )

  pub same_cost_limit : (w : ℕ) (o : Option Interval) → IsCostLimit w inst s d' r' o → IsCostLimit w inst s d r o
  same_cost_limit w None h = subst (IsWide w) same_quotients h
  same_cost_limit w (Some i) h =
      (subst (FitAll w) same_quotients h.0, λ t. let hold = same_hold (in_sense inst.sense t) in (λ g. hold.0 ((h.1 t).0 g), λ g. (h.1 t).1 (hold.1 g)))

-- the columns below k, and one more
pub limits_more : (inst : Instance) (s : State) (d r : ℕ → ℚ) (k : ℕ) (i next m : Interval) → m ≡ meet i next
    → ((u : ℚ) → Within i u ↔ ((q : ℕ) → q < k → is_looked_at inst s q ≡ true → Within (cost_limit (status_of s q) (d q) (r q)) u))
    → ((u : ℚ) → Within next u ↔ (is_looked_at inst s k ≡ true → Within (cost_limit (status_of s k) (d k) (r k)) u))
    → (u : ℚ) → Within m u ↔ ((q : ℕ) → q < k + 1 → is_looked_at inst s q ≡ true → Within (cost_limit (status_of s q) (d q) (r q)) u)
limits_more inst s d r k i next m is known one u =
    let both = within_both i next u in (
      λ h. let parts = both.0 (subst (λ m. Within m u) is h) in
          below_more (λ q. is_looked_at inst s q ≡ true → Within (cost_limit (status_of s q) (d q) (r q)) u) k ((known u).0 parts.0) ((one u).0 parts.1),
      λ h. subst (λ m. Within m u) (sym is) (both.1 ((known u).1 (λ q b. h q (omega arith)), (one u).1 (h k (omega arith)))),
    )

module _ (w : ℕ) (inst : Instance) (s : State) (table : ℕ → ℕ → ℚ) (d : ℕ → ℚ) (β : List ℚ) where
  -- ── the start ──

  same_own : (costs : List ℚ) → ((k : ℕ) → k < column_count inst → is_looked_at inst s k ≡ true → at costs k ≡ d k) → (j : ℕ) → j < column_count inst → own_limit inst s (at costs j) j ≡ own_limit inst s (d j) j
  same_own costs read j b = by_test (is_looked_at inst s j) refl
    where
      by_test : (t : Bool) → is_looked_at inst s j ≡ t
          → counted inst.sense (cond t (cost_limit (status_of s j) (at costs j) (neg_ℚ one_ℚ)) everything) ≡ counted inst.sense (cond t (cost_limit (status_of s j) (d j) (neg_ℚ one_ℚ)) everything)
      by_test true e = ap (λ z. counted inst.sense (cost_limit (status_of s j) z (neg_ℚ one_ℚ))) (read j b e)
      by_test false e = refl

  pub begun : (costs : List ℚ) (limits : Limits) → ((k : ℕ) → k < column_count inst → is_looked_at inst s k ≡ true → at costs k ≡ d k) → AreBegun inst s costs limits
      → AreLimits w inst s table d β 0 limits
  begun costs limits read h = record {
    each_cost = h.each_cost;
    each_right = h.each_right;
    own = λ j b apart. h.costs j b ∙ ap Some (same_own costs read j (omega arith));
    costs = λ p b. absurd (omega arith);
    rights = λ i b. subst (IsRightLimit w inst s table β i 0) (sym (h.rights i b)) ((λ p b. absurd (omega arith)), λ t. ((λ _ p b. absurd (omega arith)), λ _. (tt, tt)));
  }

  -- ── one position more ──

  abbrev values_at : ℕ → ℕ → List ℚ
  values_at i p = move_values (bounds inst s.phase (basic s p)) (at β p) (table p (structural_count inst + i))

  abbrev limit_at : ℕ → ℕ → Interval
  limit_at i p = value_limit (bounds inst s.phase (basic s p)) (at β p) (table p (structural_count inst + i))

  right_more : (i p : ℕ) (old new : Option Interval) → IsRightLimit w inst s table β i p old
      → TakesMove w (bounds inst s.phase (basic s p)) (at β p) (table p (structural_count inst + i)) old new → IsRightLimit w inst s table β i (p + 1) new
  right_more i p None new (q, b, wide) takes = subst (IsRightLimit w inst s table β i (p + 1)) (sym takes) (q, omega arith, wide)
  right_more i p (Some range) None known takes = (p, omega arith, takes)
  right_more i p (Some range) (Some next) known takes = (
    below_more (λ q. FitAll w (values_at i q)) p known.0 takes.0,
    λ t. let both = within_both range (limit_at i p) t in (
      λ h. let parts = both.0 (subst (λ r. Within r t) takes.1 h) in below_more (λ q. Within (limit_at i q) t) p ((known.1 t).0 parts.0) parts.1,
      λ h. subst (λ r. Within r t) (sym takes.1) (both.1 ((known.1 t).1 (λ q b. h q (omega arith)), h p (omega arith))),
    ),
  )

  module _ (valid : IsState inst s) (marked : (p : ℕ) → p < row_count inst → status_of s (basic s p) ≡ status.Basic) where
    pub taken : (p : ℕ) → p < row_count inst → (costs : List ℚ) (value : ℚ) (row rates : List ℚ) (old new : Limits) → IsPosition inst s table d β p costs value row rates
        → TakesPosition w inst s costs p value row rates old new → AreLimits w inst s table d β p old → AreLimits w inst s table d β (p + 1) new
    taken p c costs value row rates old new read takes known = record {
      each_cost = takes.cost.0 ∙ known.each_cost;
      each_right = takes.each_right ∙ known.each_right;
      own = λ j b apart. takes.cost.1 j (λ same. apart (subst (λ k. status_of s k ≡ status.Basic) (sym same) (marked p c))) ∙ known.own j b apart;
      costs = λ q b structural. at_or_other (λ q. q < p + 1 → basic s q < structural_count inst → IsCostLimit w inst s d (table q) (get_or new.costs.items (basic s q) None)) p q
          (λ b structural. same_cost_limit inst s d (at costs) (table p) (at row) read.costs_read (read.row_read structural) w _ (takes.cost.2 structural))
          (λ other b structural. subst (IsCostLimit w inst s d (table q)) (sym (takes.cost.1 (basic s q) (λ same. other (valid.once q p (omega arith) c same))))
          (known.costs q (below p q other b) structural))
          b structural;
      rights = λ i b. right_more i p _ _ (known.rights i b)
          (subst (λ z. TakesMove w (bounds inst s.phase (basic s p)) (at β p) z (get_or old.rights.items i None) (get_or new.rights.items i None)) (read.rates_read i b)
          (subst (λ z. TakesMove w (bounds inst s.phase (basic s p)) z (at rates i) (get_or old.rights.items i None) (get_or new.rights.items i None)) read.value_read
          (takes.rights i (subst (λ n. i < n) (sym known.each_right) b))));
    }
      where
        below : (p q : ℕ) → q ≢ p → q < p + 1 → q < p
        below p q other b = omega (arith, other, b)

-- what is taken in under other names of the same
pub taken_as : (w w' : ℕ) (inst : Instance) (s s' : State) (p : ℕ) (value : ℚ) (costs costs' row row' rates rates' : List ℚ) (old new : Limits) → w ≡ w' → s ≡ s'
    → costs ≡ costs' → row ≡ row' → rates ≡ rates' → TakesPosition w inst s costs p value row rates old new → TakesPosition w' inst s' costs' p value row' rates' old new
taken_as w w' inst s s' p value costs costs' row row' rates rates' old new width state is_costs is_row is_rates h =
    subst (λ v. TakesPosition v inst s' costs' p value row' rates' old new) width
    (subst (λ t. TakesPosition w inst t costs' p value row' rates' old new) state
    (subst (λ xs. TakesPosition w inst s xs p value row' rates' old new) is_costs
    (subst (λ xs. TakesPosition w inst s costs p value xs rates' old new) is_row
    (subst (λ xs. TakesPosition w inst s costs p value row xs old new) is_rates h))))
