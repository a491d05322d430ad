-- The changes of a right side that leave a state optimal.
use Rattle.std.proofs.Common.{◌≡◌, ◌↔◌, ℕ, ◌+◌, ◌<◌, List, map, sym, ◌∙◌, ap, ap₂, subst, get_or-set_other, get_or-set_same, arith}
use Rattle.lp_model.specs.declared.Phase.TheVariants.{Two}
use Rattle.lp_model.specs.Deck.{Within}
use Rattle.rational.specs.Rational.{ℚ, zero_ℚ, one_ℚ, ◌+ℚ◌, ◌-ℚ◌, ◌*ℚ◌}
use Rattle.rational.specs.Sparse.{at_index, upto}
use Rattle.rational.specs.Sum.{at, sum_ℚ}
use Rattle.rational.proofs.RationalRing.{ring_ℚ}
use Rattle.rational.proofs.Ring.{◌≐◌, ◌⊙◌≗◌⟹◌, ◌⊕◌, ◌⊖◌, ◌⊗◌, ⊝◌, 𝟘, 𝟙}
use Rattle.rational.proofs.SparseLaws.{at_index-other, at_index-same}
use Rattle.rational.proofs.SumLaws.{at_or_other, sum-add, sum-cong, sum-scale}
use Rattle.rational.proofs.VectorLaws.{get-map-upto, length-map-upto}
use Rattle.lp_run.specs.Instance.{Instance, bounds, coefficient, column_count, row_count, structural_count}
use Rattle.lp_run.specs.Solution.{IsTable, Regular, Values, basis_times, right_left}
use Rattle.lp_run.specs.State.{State, basic, rest}
use Rattle.lp_run.proofs.Regularity.{one_values}
use Rattle.lp_run.proofs.Start.{coefficient-logical}
use Rattle.ranging.specs.Inner.Limits.{value_limit}
use Rattle.ranging.specs.Ranges.{RightStays, with_right}
use Rattle.ranging.proofs.Alike.{Alike, right_alike, same_basis_times, same_coefficient, same_count, same_regular, same_rest}
use Rattle.ranging.proofs.Changes.{values_stay}

module _ (inst : Instance) (s : State) (regular : Regular inst s) (two : s.phase ≡ Two) (β : List ℚ) (values : Values inst s β)
    (within : (p : ℕ) → p < row_count inst → Within (bounds inst s.phase (basic s p)) (at β p))
    (table : ℕ → ℕ → ℚ) (is_table : IsTable inst s table) (i : ℕ) (below : i < row_count inst) (t : ℚ) where
  abbrev changed : Instance
  changed = with_right inst i t

  abbrev rate : ℕ → ℚ
  rate p = table p (structural_count inst + i)

  alike : Alike inst changed
  alike = right_alike inst i t

  moved : List ℚ
  moved = map (λ p. at β p +ℚ t *ℚ rate p) (upto (row_count inst))

  moved_at : (p : ℕ) → p < row_count inst → at moved p ≡ at β p +ℚ t *ℚ rate p
  unfolding moved
  moved_at p b = get-map-upto (λ p. at β p +ℚ t *ℚ rate p) zero_ℚ (row_count inst) p b

  -- the right sides: that of row i is t more
  right_at : (k : ℕ) → at changed.right k ≡ at inst.right k +ℚ t *ℚ at_index k i one_ℚ
  right_at k =
      at_or_other (λ k. at changed.right k ≡ at inst.right k +ℚ t *ℚ at_index k i one_ℚ) i k
      (get_or-set_same inst.right i _ zero_ℚ below
      ∙ ring_ℚ 3 (λ b t e. ⊝ t ⊙ e ≗ 𝟙 ⟹ b ⊕ t ≐ b ⊕ t ⊗ e) tt (at inst.right i) t (at_index i i one_ℚ) (at_index-same i one_ℚ))
      (λ other. get_or-set_other inst.right i k _ zero_ℚ other
      ∙ ring_ℚ 3 (λ b t e. ⊝ t ⊙ e ≗ 𝟘 ⟹ b ≐ b ⊕ t ⊗ e) tt (at inst.right k) t (at_index k i one_ℚ) (at_index-other k i one_ℚ other))

  left_at : (k : ℕ) → right_left changed s k ≡ right_left inst s k +ℚ t *ℚ at_index k i one_ℚ
  left_at k =
      ap₂ ◌-ℚ◌ (right_at k)
      (ap (λ n. sum_ℚ n (λ j. rest changed s j *ℚ coefficient changed k j)) (same_count inst changed alike)
      ∙ sum-cong (column_count inst) _ _ (λ j b. ap₂ ◌*ℚ◌ (same_rest inst changed alike s j) (same_coefficient inst changed alike k j)))
      ∙ ring_ℚ 3 (λ b z r. (b ⊕ z) ⊖ r ≐ (b ⊖ r) ⊕ z) tt (at inst.right k) (t *ℚ at_index k i one_ℚ) (sum_ℚ (column_count inst) (λ j. rest inst s j *ℚ coefficient inst k j))

  times_moved : (k : ℕ) → basis_times inst s (at moved) k ≡ basis_times inst s (at β) k +ℚ t *ℚ basis_times inst s rate k
  times_moved k =
      sum-cong (row_count inst) _ _ (λ p b. ap (λ z. coefficient inst k (basic s p) *ℚ z) (moved_at p b)
      ∙ ring_ℚ 4 (λ a b t g. a ⊗ (b ⊕ t ⊗ g) ≐ a ⊗ b ⊕ t ⊗ (a ⊗ g)) tt (coefficient inst k (basic s p)) (at β p) t (rate p))
      ∙ sum-add (row_count inst) (λ p. coefficient inst k (basic s p) *ℚ at β p) (λ p. t *ℚ (coefficient inst k (basic s p) *ℚ rate p))
      ∙ ap (λ z. basis_times inst s (at β) k +ℚ z) (sum-scale (row_count inst) t (λ p. coefficient inst k (basic s p) *ℚ rate p))

  moved_values : Values changed s moved
  unfolding moved
  moved_values = record {
    one_each = length-map-upto (λ p. at β p +ℚ t *ℚ rate p) (row_count inst) ∙ sym alike.rows;
    solves = λ k b. let c : k < row_count inst = subst (λ n. k < n) alike.rows b in
        same_basis_times inst changed alike s (at moved) k ∙ times_moved k
        ∙ ap₂ (λ a z. a +ℚ t *ℚ z) (values.solves k c) (is_table k (structural_count inst + i) c (omega arith) ∙ coefficient-logical inst k i below)
        ∙ sym (left_at k);
  }

  abbrev Limited : Type 0
  Limited = (p : ℕ) → p < row_count inst → Within (value_limit (bounds inst s.phase (basic s p)) (at β p) (rate p)) t

  limited : ((p : ℕ) → p < row_count inst → Within (bounds inst Two (basic s p)) (at moved p)) → Limited
  limited h p b =
      (values_stay (at β p) (rate p) t (bounds inst s.phase (basic s p)) (within p b)).0
      (subst (λ v. Within (bounds inst s.phase (basic s p)) v) (moved_at p b) (subst (λ phase. Within (bounds inst phase (basic s p)) (at moved p)) (sym two) (h p b)))

  unlimited : Limited → (p : ℕ) → p < row_count inst → Within (bounds inst Two (basic s p)) (at moved p)
  unlimited h p b =
      subst (λ phase. Within (bounds inst phase (basic s p)) (at moved p)) two (subst (λ v. Within (bounds inst s.phase (basic s p)) v) (sym (moved_at p b))
      ((values_stay (at β p) (rate p) t (bounds inst s.phase (basic s p)) (within p b)).1 (h p b)))

  -- it stays optimal exactly where each basic value is within its limit
  pub rights_stay : RightStays inst s i t ↔ Limited
  rights_stay = (
    λ stays. limited (subst (λ β'. (p : ℕ) → p < row_count inst → Within (bounds inst Two (basic s p)) (at β' p))
        (one_values changed s (same_regular inst changed alike s regular) stays.0 moved stays.1 moved_values) stays.2),
    λ h. (moved, moved_values, unlimited h),
  )
