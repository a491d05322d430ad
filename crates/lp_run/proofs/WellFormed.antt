-- The instance of every deck is well formed.
use Rattle.std.proofs.Common.{◌≡◌, ℕ, ◌<◌, length, Option, Some, None, sym, ◌∙◌, subst}
use Rattle.std.proofs.lemmas.Int.{ints}
use Rattle.std.proofs.Common.{arith}
use Rattle.std.proofs.lemmas.List.{get_or-map, length-map}
use Rattle.std.specs.Option.{option_map}
use Rattle.std.specs.declared.cmp.Ordering.TheVariants.{Less, Equal, Greater}
use Rattle.lp_model.specs.declared.RowKind.{RowKind}
use Rattle.lp_model.specs.declared.RowKind.TheVariants.{L, G, E}
use Rattle.rational.specs.Rational.{ℚ, zero_ℚ, neg_ℚ, abs_ℚ, ◌≤ℚ◌}
use Rattle.rational.specs.Sparse.{IsSparse}
use Rattle.rational.proofs.Linear.{linear, ◌≼◌, ◌≺◌, ◌⟹◌}
use Rattle.rational.proofs.OrderLaws.{abs_ℚ-not_below, by_cmp}
use Rattle.rational.proofs.Ring.{⊝◌, 𝟘}
use Rattle.lp_model.specs.Deck.{Deck, IsDeck, IsUncrossed, between, column, logical_bounds, logical_bounds_of, no_column, no_row, nonnegative, row}
use Rattle.lp_run.specs.Instance.{Instance, IsInstance, IsWellFormed, equations_of, instance_of, no_structural, range_sum, row_count, row_passes, structural, structural_count, structural_of}
use Rattle.rational.proofs.VectorLaws.{get-map-upto}
use Rattle.lp_run.proofs.StartStatuses.{passed_count}

uncrossed-between : (l u : ℚ) → l ≤ℚ u → IsUncrossed (between l u)
uncrossed-between l u h l' u' e f = subst (λ x. x ≤ℚ u') (same e) (subst (λ x. l ≤ℚ x) (same f) h)
  where
    same : {a b : ℚ} → Some a ≡ Some b → a ≡ b
    same e = cc

uncrossed-up : IsUncrossed nonnegative
uncrossed-up l u e f = absurd (cc f)

down : (r : ℚ) → zero_ℚ ≤ℚ r → IsUncrossed (between (neg_ℚ r) zero_ℚ)
down r h = uncrossed-between (neg_ℚ r) zero_ℚ (linear 1 (λ r. 𝟘 ≼ r ⟹ ⊝ r ≼ 𝟘) (omega (arith, ints)) r h)

point : IsUncrossed (between zero_ℚ zero_ℚ)
point = uncrossed-between zero_ℚ zero_ℚ (linear 0 (𝟘 ≼ 𝟘) (omega (arith, ints)))

-- the bounds of no logical cross
logical_uncrossed : (kind : RowKind) (range : Option ℚ) → IsUncrossed (logical_bounds_of kind range)
logical_uncrossed L None = uncrossed-up
logical_uncrossed L (Some r) = uncrossed-between zero_ℚ (abs_ℚ r) (abs_ℚ-not_below r)
logical_uncrossed G None = λ l u e f. absurd (cc e)
logical_uncrossed G (Some r) = down (abs_ℚ r) (abs_ℚ-not_below r)
logical_uncrossed E None = point
logical_uncrossed E (Some r) =
    by_cmp (λ o. IsUncrossed (elim o [ Less ↦ between zero_ℚ (abs_ℚ r) | Equal ↦ between zero_ℚ zero_ℚ | Greater ↦ between (neg_ℚ r) zero_ℚ ])) r zero_ℚ
    (λ h. uncrossed-between zero_ℚ (abs_ℚ r) (abs_ℚ-not_below r)) (λ h. point)
    (λ h. down r (linear 1 (λ r. 𝟘 ≺ r ⟹ 𝟘 ≼ r) (omega (arith, ints)) r h))

module _ (d : Deck) (deck : IsDeck d) where
  rows : row_count (instance_of d) ≡ length d.rows
  rows = length-map d.rows (λ r. r.right)

  columns : structural_count (instance_of d) ≡ length d.columns
  columns = length-map d.columns structural_of

  structural_there : (j : ℕ) → j < length d.columns → structural (instance_of d) j ≡ structural_of (column d j)
  structural_there j b = get_or-map structural_of d.columns j no_column no_structural b

  deck_well_formed : IsWellFormed (instance_of d)
  deck_well_formed = record {
    logicals = length-map d.rows logical_bounds ∙ sym rows;
    range_sums = length-map d.rows range_sum ∙ sym rows;
    sides = passed_count d;
    passes = λ i b. get-map-upto (λ i. option_map (λ passed. passed.0) (row_passes (equations_of d) i)) None (row_count (instance_of d)) i b;
    sparse = λ j b. subst (λ c. IsSparse (row_count (instance_of d)) 0 c.entries) (sym (structural_there j (subst (λ n. j < n) columns b)))
        (subst (λ m. IsSparse m 0 (column d j).entries) (sym rows) (deck.sparse j (subst (λ n. j < n) columns b)));
    uncrossed = λ j b. subst (λ c. IsUncrossed c.bounds) (sym (structural_there j (subst (λ n. j < n) columns b))) (deck.uncrossed j (subst (λ n. j < n) columns b));
    logicals_uncrossed = λ i b. subst IsUncrossed (sym (get_or-map logical_bounds d.rows i no_row nonnegative (subst (λ m. i < m) rows b)))
        (logical_uncrossed (row d i).kind (row d i).range);
  }

pub instance_well_formed : (inst : Instance) → IsInstance inst → IsWellFormed inst
instance_well_formed inst (d, deck, is) = subst IsWellFormed (sym is) (deck_well_formed d deck)
