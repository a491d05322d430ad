-- A transport deck has a feasible point, and no feasible point of it has an objective below 0.
use Rattle.std.proofs.Common.{◌≡◌, ◌≢◌, ℕ, zero, suc, ◌+◌, ◌-◌, ◌*◌, ◌/◌, ◌%◌, ◌<◌, ◌≤◌, pos, List, [], ◌∷◌, length, map}
use Rattle.std.proofs.Common.{Bool, true, false, cond, eqb, eq-eqb, ne_eqb, eqb-true, refl, sym, subst, ap, ap₂, ◌∙◌, arith, length-append}
use Rattle.std.specs.Prelude.{nat_lt}
use Rattle.std.proofs.Math.Nat.{div-add-mod, div-lt_iff_lt-mul, mod-lt}
use Rattle.std.proofs.lemmas.Bool.{eqb-false}
use Rattle.std.proofs.lemmas.Bool.Decides.{nat_tests}
use Rattle.std.proofs.lemmas.Int.{ints}
use Rattle.std.proofs.lemmas.List.{get_or_append_left, get_or-append_right}
use Rattle.std.proofs.lemmas.Nat.{div-mul-add, mod-mul-add, mul-add-lt}
use Rattle.rational.specs.Rational.{ℚ, zero_ℚ, one_ℚ, ◌+ℚ◌, ◌*ℚ◌, ◌≤ℚ◌}
use Rattle.rational.specs.Sparse.{entry_at, upto}
use Rattle.rational.specs.Sum.{sum_ℚ, at}
use Rattle.rational.proofs.Linear.{linear, ◌≼◌, ◌≐◌, ◌⟹◌}
use Rattle.rational.proofs.Linear.Transfer.{le_to}
use Rattle.rational.proofs.ProductOrder.{*ℚ_nonnegative}
use Rattle.rational.proofs.RationalRing.{ring_ℚ}
use Rattle.rational.proofs.RationalRing.Parts.{over-zero, over_ratio}
use Rattle.rational.proofs.Ring.{◌≐◌, ◌⊗◌, ◌⊕◌, 𝟘, 𝟙}
use Rattle.rational.proofs.SumLaws.{sum-mono, sum-none, sum-single}
use Rattle.rational.proofs.VectorLaws.{get-map-upto, length-map-upto}
use Rattle.lp_model.specs.Deck.{IsFeasible, Within, activity, activity_interval, column, cost_at, entry, no_column, no_row, objective, row}
use Rattle.deck_tools.specs.Transport.{cost_of, number, route, sink, source, transport}

-- ── whole numbers ──

number-mono : (a b : ℕ) → a ≤ b → number a ≤ℚ number b
number-mono a b h = le_to (over_ratio (pos a) 1 (omega arith)) (over_ratio (pos b) 1 (omega arith)) (omega (arith, ints))

number-nonnegative : (a : ℕ) → zero_ℚ ≤ℚ number a
number-nonnegative a = le_to over-zero (over_ratio (pos a) 1 (omega arith)) (omega (arith, ints))

-- ── a point: 18 go from each source to the sink of its number ──

abbrev shipped : ℕ → ℕ → ℚ
shipped n k = cond (eqb (k / n) (k % n)) (number 18) zero_ℚ

abbrev shipment : ℕ → List ℚ
shipment n = map (shipped n) (upto (n * n))

-- a 1 in each of two rows
abbrev pair_in : ℕ → ℕ → ℕ → ℚ
pair_in a b r = cond (eqb a r) one_ℚ (cond (eqb b r) one_ℚ zero_ℚ)

in_first : (a b r : ℕ) → a ≡ r → pair_in a b r ≡ one_ℚ
in_first a b r e = ap (λ t. cond t one_ℚ (cond (eqb b r) one_ℚ zero_ℚ)) (eq-eqb a r e)

in_second : (a b r : ℕ) → a ≢ r → b ≡ r → pair_in a b r ≡ one_ℚ
in_second a b r d e = ap₂ (λ t u. cond t one_ℚ (cond u one_ℚ zero_ℚ)) (ne_eqb a r d) (eq-eqb b r e)

in_neither : (a b r : ℕ) → a ≢ r → b ≢ r → pair_in a b r ≡ zero_ℚ
in_neither a b r d e = ap₂ (λ t u. cond t one_ℚ (cond u one_ℚ zero_ℚ)) (ne_eqb a r d) (ne_eqb b r e)

module _ (n : ℕ) where
  columns_are : length (transport n).columns ≡ n * n
  columns_are = length-map-upto (route n) (n * n)

  route_at : (k : ℕ) → k < n * n → column (transport n) k ≡ route n k
  route_at k h = get-map-upto (route n) no_column (n * n) k h

  entry_is : (r k : ℕ) → k < n * n → entry (transport n) r k ≡ pair_in (k / n) (n + k % n) r
  entry_is r k h = ap (λ c. entry_at c.entries r) (route_at k h)

  some : (k : ℕ) → k < n * n → zero < n
  some k h = by_size n h
    where
      by_size : (m : ℕ) → k < m * m → zero < m
      by_size zero h = absurd (omega arith)
      by_size (suc m) h = omega arith

  source_below : (k : ℕ) → k < n * n → k / n < n
  source_below k h = (div-lt_iff_lt-mul (some k h)).1 h

  sink_below : (k : ℕ) → k < n * n → k % n < n
  sink_below k h = mod-lt k (some k h)

  -- ── what leaves a source, and what comes to a sink ──

  abbrev own : ℕ → ℕ
  own q = q * n + q

  own_within : (q : ℕ) → q < n → own q < n * n
  own_within q h = mul-add-lt q n q n h h

  own_source : (q : ℕ) → q < n → own q / n ≡ q
  own_source q h = div-mul-add q n q h

  own_sink : (q : ℕ) → q < n → own q % n ≡ q
  own_sink q h = mod-mul-add q n q h

  is_own : (k q : ℕ) → k / n ≡ q → k % n ≡ q → k ≡ own q
  is_own k q e f = sym (div-add-mod k n) ∙ ap₂ (λ i j. n * i + j) e f ∙ omega arith

  own_shipped : (q : ℕ) → q < n → shipped n (own q) ≡ number 18
  own_shipped q h = ap (λ t. cond t (number 18) zero_ℚ) (eq-eqb (own q / n) (own q % n) (own_source q h ∙ sym (own_sink q h)))

  -- where row r has a 1 in the column of q's own route, and in no other column along which something goes
  record Meets (q r : ℕ) : Type 0 where
    here : pair_in (own q / n) (n + own q % n) r ≡ one_ℚ
    there : (k : ℕ) → k < n * n → k / n ≡ k % n → k / n ≢ q → pair_in (k / n) (n + k % n) r ≡ zero_ℚ

  module _ (q r : ℕ) (below : q < n) (meets : Meets q r) where
    abbrev term : ℕ → ℚ
    term k = entry (transport n) r k *ℚ at (shipment n) k

    term_is : (k : ℕ) → k < n * n → term k ≡ pair_in (k / n) (n + k % n) r *ℚ shipped n k
    term_is k h = ap₂ ◌*ℚ◌ (entry_is r k h) (get-map-upto (shipped n) zero_ℚ (n * n) k h)

    no_shipment : (k : ℕ) → k < n * n → k ≢ own q → pair_in (k / n) (n + k % n) r *ℚ shipped n k ≡ zero_ℚ
    no_shipment k h other = by_test (eqb (k / n) (k % n)) refl
      where
        by_test : (b : Bool) → eqb (k / n) (k % n) ≡ b → pair_in (k / n) (n + k % n) r *ℚ shipped n k ≡ zero_ℚ
        by_test false e =
            ap (λ t. pair_in (k / n) (n + k % n) r *ℚ cond t (number 18) zero_ℚ) e ∙ ring_ℚ 1 (λ a. a ⊗ 𝟘 ≐ 𝟘) tt (pair_in (k / n) (n + k % n) r)
        by_test true e =
            let same : k / n ≡ k % n = eqb-true (k / n) (k % n) e in
            let apart : k / n ≢ q = λ is. other (is_own k q is (sym same ∙ is)) in
            ap (λ a. a *ℚ shipped n k) (meets.there k h same apart) ∙ ring_ℚ 1 (λ a. 𝟘 ⊗ a ≐ 𝟘) tt (shipped n k)

    activity_is : activity (transport n) (shipment n) r ≡ number 18
    activity_is =
        ap (λ m. sum_ℚ m term) columns_are
        ∙ sum-single (n * n) (own q) term (own_within q below) (λ k h other. term_is k h ∙ no_shipment k h other)
        ∙ term_is (own q) (own_within q below)
        ∙ ap₂ ◌*ℚ◌ meets.here (own_shipped q below)
        ∙ ring_ℚ 1 (λ a. 𝟙 ⊗ a ≐ a) tt (number 18)

  meets_source : (q : ℕ) → q < n → Meets q q
  meets_source q h = record {
    here = in_first (own q / n) (n + own q % n) q (own_source q h);
    there = λ k b same other. in_neither (k / n) (n + k % n) q other (omega arith);
  }

  meets_sink : (q : ℕ) → q < n → Meets q (n + q)
  meets_sink q h = record {
    here =
        let at_own = own_source q h in
        in_second (own q / n) (n + own q % n) (n + q) (omega (arith, at_own)) (ap (λ j. n + j) (own_sink q h));
    there = λ k b same other.
        let below = source_below k b in
        in_neither (k / n) (n + k % n) (n + q) (omega (arith, below)) (λ e. other (omega (arith, e, same)));
  }

  -- ── the point is feasible ──

  shipped-nonnegative : (k : ℕ) → zero_ℚ ≤ℚ shipped n k
  shipped-nonnegative k = by_test (eqb (k / n) (k % n))
    where
      by_test : (b : Bool) → zero_ℚ ≤ℚ cond b (number 18) zero_ℚ
      by_test true = number-nonnegative 18
      by_test false = linear 1 (λ a. a ≐ a ⟹ 𝟘 ≼ 𝟘) (omega (arith, ints)) zero_ℚ refl

  columns_within : (k : ℕ) → k < n * n → Within (column (transport n) k).bounds (at (shipment n) k)
  columns_within k h =
      subst (λ c. Within c.bounds (at (shipment n) k)) (sym (route_at k h))
      (subst (λ x. zero_ℚ ≤ℚ x) (sym (get-map-upto (shipped n) zero_ℚ (n * n) k h)) (shipped-nonnegative k), tt)

  sources_are : length (map source (upto n)) ≡ n
  sources_are = length-map-upto source n

  rows_are : length (transport n).rows ≡ n + n
  rows_are = length-append (map source (upto n)) (map sink (upto n)) ∙ ap₂ ◌+◌ sources_are (length-map-upto sink n)

  source_at : (i : ℕ) → i < n → row (transport n) i ≡ source i
  source_at i h = get_or_append_left (map source (upto n)) (map sink (upto n)) no_row i (omega (arith, sources_are)) ∙ get-map-upto source no_row n i h

  sink_at : (i : ℕ) → n ≤ i → i < n + n → row (transport n) i ≡ sink (i - n)
  sink_at i from h =
      get_or-append_right (map source (upto n)) (map sink (upto n)) n i no_row sources_are from ∙ get-map-upto sink no_row n (i - n) (omega arith)

  leaves : (i : ℕ) → i < n → Within (activity_interval (row (transport n) i)) (activity (transport n) (shipment n) i)
  leaves i h =
      subst (λ r. Within (activity_interval r) (activity (transport n) (shipment n) i)) (sym (source_at i h))
      (tt, subst (λ a. a ≤ℚ number (20 + (i + 1) % 5)) (sym (activity_is i i h (meets_source i h))) (number-mono 18 (20 + (i + 1) % 5) (omega arith)))

  comes : (i : ℕ) → n ≤ i → i < n + n → Within (activity_interval (row (transport n) i)) (activity (transport n) (shipment n) i)
  comes i from h =
      let q : ℕ = i - n in
      let below : q < n = omega arith in
      let is : n + q ≡ i = omega arith in
      let due : 15 + (q + 1) % 4 ≤ 18 = omega arith in
      subst (λ r. Within (activity_interval r) (activity (transport n) (shipment n) i)) (sym (sink_at i from h)) (
        subst (λ a. number (15 + (q + 1) % 4) ≤ℚ a) (sym (ap (activity (transport n) (shipment n)) (sym is) ∙ activity_is q (n + q) below (meets_sink q below)))
            (number-mono (15 + (q + 1) % 4) 18 due),
        tt,
      )

  rows_within : (i : ℕ) → i < n + n → Within (activity_interval (row (transport n) i)) (activity (transport n) (shipment n) i)
  rows_within i h = by_half (nat_lt i n) refl
    where
      by_half : (b : Bool) → nat_lt i n ≡ b → Within (activity_interval (row (transport n) i)) (activity (transport n) (shipment n) i)
      by_half true e = leaves i (grind (arith, nat_tests))
      by_half false e = comes i (grind (arith, nat_tests)) h

pub is_feasible : (n : ℕ) → (x : List ℚ) × IsFeasible (transport n) x
is_feasible n = (
  shipment n,
  record {
    one_each = length-map-upto (shipped n) (n * n) ∙ sym (columns_are n);
    columns_within = λ k h. columns_within n k (subst (λ m. k < m) (columns_are n) h);
    rows_within = λ i h. rows_within n i (subst (λ m. i < m) (rows_are n) h);
  },
)

-- ── no objective is below 0 ──

module _ (n : ℕ) (x : List ℚ) (feasible : IsFeasible (transport n) x) where
  abbrev spent : ℕ → ℚ
  spent k = (column (transport n) k).cost *ℚ at x k

  spent-nonnegative : (k : ℕ) → k < length (transport n).columns → zero_ℚ ≤ℚ spent k
  spent-nonnegative k h =
      let within : k < n * n = subst (λ m. k < m) (columns_are n) h in
      let at_least : Within (route n k).bounds (at x k) = subst (λ c. Within c.bounds (at x k)) (route_at n k within) (feasible.columns_within k h) in
      *ℚ_nonnegative (column (transport n) k).cost (at x k)
      (subst (λ c. zero_ℚ ≤ℚ c.cost) (sym (route_at n k within)) (number-nonnegative (cost_of (k / n + 1) (k % n + 1)))) at_least.0

  pub not_below : zero_ℚ ≤ℚ objective (transport n) x
  not_below =
      let m = length (transport n).columns in
      linear 3 (λ z c o. z ≼ c ⟹ z ≐ 𝟘 ⟹ o ≐ 𝟘 ⊕ c ⟹ 𝟘 ≼ o) (omega (arith, ints)) (sum_ℚ m (λ k. zero_ℚ)) (sum_ℚ m spent) (objective (transport n) x)
      (sum-mono m (λ k. zero_ℚ) spent spent-nonnegative) (sum-none m (λ k. zero_ℚ) (λ k h. refl)) refl
